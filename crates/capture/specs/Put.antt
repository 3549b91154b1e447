-- What a line leaves in the output of `capture write`: its record at the end of what is to be written, or nothing.
use Rattle.std.specs.Prelude.{◌≡◌, ℕ, List}
use Rattle.pcap.specs.Layout.{record_bytes}
use Rattle.pcap.specs.declared.ByteOrder.TheVariants.{Little}
use Rattle.lines.specs.Output.{Holds}
use Rattle.lines.specs.declared.output.Out.{Out}
use Rattle.capture.specs.Line.{Says, says, nothing, wrong}

abbrev pub Puts : List ℕ → Out → Says → Out → List ℕ → Type 0
Puts output before (says seconds microseconds frame) after exit = Holds output before (record_bytes Little seconds microseconds frame) after exit
Puts output before nothing after exit = (after ≡ before) × (exit ≡ output)
Puts output before (wrong fault) after exit = (after ≡ before) × (exit ≡ output)
