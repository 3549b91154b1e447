-- A number as bytes in either byte order, and back.
use Rattle.std.specs.Prelude.{ℕ, zero, suc, ◌+◌, ◌*◌, ◌/◌, ◌%◌, List, [], ◌∷◌, reverse}
use Rattle.pcap.specs.declared.ByteOrder.{ByteOrder}
use Rattle.pcap.specs.declared.ByteOrder.TheVariants.{Little, Big}

-- a number's bytes, so many of them, low first
unfoldable pub low_first : ℕ → ℕ → List ℕ
low_first zero n = []
low_first (suc w) n = n % 256 ∷ low_first w (n / 256)

-- the number that these bytes say, low first
unfoldable pub value : List ℕ → ℕ
value [] = 0
value (b ∷ s) = b + value s * 256

-- bytes that are given low first, put into a byte order; the same again takes them out of it
abbrev pub ordered : ByteOrder → List ℕ → List ℕ
ordered Little s = s
ordered Big s = reverse s

-- a number of w bytes in a byte order, and back
abbrev pub bytes_of : ByteOrder → ℕ → ℕ → List ℕ
bytes_of o w n = ordered o (low_first w n)

abbrev pub value_of : ByteOrder → List ℕ → ℕ
value_of o s = value (ordered o s)
