-- A register that is ready to be put on a shelf.
use Rattle.std.specs.Prelude.{ℕ, List}
use Rattle.byte_shelf.specs.Ready as slots
use Rattle.byte_shelf.specs.declared.keeping.Frame.{Frame}
use Rattle.reg_file.specs.Contents.{Content}
use Rattle.reg_file.specs.Files.{Holds}

-- the frame is ready for the image, with a file of the content
pub record IsReady (image : List ℕ) (x : Content) (frame : Frame) : Type 0 where
  pub bytes : List ℕ
  pub ready : slots.IsReady image bytes frame
  pub held : Holds bytes x
