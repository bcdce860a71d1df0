-- A frame that is ready to be put on a shelf.
use Rattle.std.specs.Prelude.{◌≡◌, ◌≤◌, ◌-◌, ◌%◌, ℕ, List, length}
use Rattle.byte_shelf.specs.Shelf.{HasHead, place, framed}
use Rattle.byte_shelf.specs.declared.keeping.Frame.{Frame}

-- the frame holds these bytes, which fit in a slot of the image; it is for the slot that is not in use, and its gate selects that
pub record IsReady (image bytes : List ℕ) (frame : Frame) : Type 0 where
  pub gate : ℕ
  pub size : ℕ
  pub head : HasHead image gate size
  pub fits : length bytes ≤ size
  pub spare : frame.at ≡ place size (1 - gate % 2)
  pub turned : frame.gate ≡ 1 - gate % 2
  pub whole : frame.bytes.items ≡ framed bytes
