-- The names and places of faults.
use Rattle.std.specs.Prelude.{ℕ, List, Option, Some, None, codes}
use Rattle.byte_io.specs.declared.fault.InFault.{InFault}
use Rattle.byte_io.specs.declared.fault.InFault.TheVariants as read
use Rattle.byte_io.specs.declared.fault.PublishFault.{PublishFault}
use Rattle.byte_io.specs.declared.fault.PublishFault.TheVariants as published

-- a source that was not read
abbrev pub in_name : InFault → List ℕ
in_name (read.ReadFailed at) = codes "ReadFailed"
in_name read.Memory = codes "Memory"

abbrev pub in_place : InFault → Option ℕ
in_place (read.ReadFailed at) = Some at
in_place read.Memory = None

-- a target that did not get all
abbrev pub publish_name : PublishFault → List ℕ
publish_name published.NotOpened = codes "NotOpened"
publish_name (published.WriteFailed at) = codes "WriteFailed"

abbrev pub publish_place : PublishFault → Option ℕ
publish_place published.NotOpened = None
publish_place (published.WriteFailed at) = Some at
