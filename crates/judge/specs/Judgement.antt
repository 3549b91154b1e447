-- What the program prints: the line of the first 4,100 bytes of its input, read as one frame, and a line end.
use Rattle.std.specs.Prelude.{ℕ, List, ◌++◌, take}
use Rattle.text.specs.Bytes.{bytes}
use Rattle.edm.specs.Frame.{read_frame}
use Rattle.render.specs.Frame.{frame_line}

abbrev pub line_of : List ℕ → List ℕ
line_of frame = frame_line frame (read_frame frame) ++ bytes "\n"

unfoldable pub judgement : List ℕ → List ℕ
judgement input = line_of (take 4100 input)
