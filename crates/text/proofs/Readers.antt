-- What `read` ensures, at any width and at the three that there are. `read.Reads.Post` is the promise that its contract makes. Assumes nothing.
use Prim.Native.Nat.{ℕ}
use mathlib.Core.Path.{◌≡◌, refl, ap}
use mathlib.Core.List.{List}
use mir.Syntax.{Dict}
use native.Mathlib.Omega.{arith}
use denote.Builtin.{u8, u16, u32}
use denote.Param.Laws.{Laws, of_field}
use denote.Param.Shared.{copy_shared}
use denote.RattleType.{RattleType}
use denote.Struct.Field.{u8-field, u16-field, u32-field}
use denote.Struct.Laws.{u8-laws, u8-copy, u16-laws, u16-copy, u32-laws, u32-copy}
use borrow.Fn.Kinds.{ParamKind, ResultKind, Out}
use Rattle.std.specs.Prelude.{Result, Ok, Err}
use Rattle.text.specs.Number.{shown}
use Rattle.text.specs.declared.number.NumberError.{NumberError}
use Rattle.text.specs.declared.number.Width as Width
use Rattle.text.specs.contracts.number.U8Width.TheImpl as eight
use Rattle.text.specs.contracts.number.U16Width.TheImpl as sixteen
use Rattle.text.specs.contracts.number.U32Width.TheImpl as thirty_two
use Rattle.text.proofs.number.read as read

-- a type of numbers, and its width
pub record Reader : Type 2 where
  pub row : RattleType
  pub laws : Laws row
  pub width : Width.Ghosts row.Denot
  pub dict : Dict

-- the reader's parameter, its result, and what it ensures
abbrev pub ps : Reader → List (ParamKind 2)
ps r = read.Kinds.ps r.row r.laws

abbrev pub result : Reader → ResultKind 2
result r = read.Kinds.r r.row r.laws

abbrev pub Post : (r : Reader) → Out 2 (ps r) (result r)
Post r = read.Reads.Post r.row r.laws r.width r.dict

abbrev pub read8 : Reader
read8 = record { row = u8; laws = of_field u8-field u8-laws refl (copy_shared u8-field u8-copy); width = eight.ghosts; dict = eight.dict }

abbrev pub read16 : Reader
read16 = record { row = u16; laws = of_field u16-field u16-laws refl (copy_shared u16-field u16-copy); width = sixteen.ghosts; dict = sixteen.dict }

abbrev pub read32 : Reader
read32 = record { row = u32; laws = of_field u32-field u32-laws refl (copy_shared u32-field u32-copy); width = thirty_two.ghosts; dict = thirty_two.dict }

-- numbers of different values are apart
abbrev pub Apart : {A : Type 0} → (A → ℕ) → Type 0
Apart {A} value = (a b : A) → value a ≡ value b → a ≡ b

-- `shown` distinguishes any two answers
pub shown_injective : {A : Type 0} (value : A → ℕ) → Apart value → (r q : Result A NumberError) → shown value r ≡ shown value q → r ≡ q
shown_injective value apart (Ok a) (Ok b) e = let f : value a ≡ value b = cc in ap Ok (apart a b f)
shown_injective value apart (Ok a) (Err d) e = let z : ◌≡◌ {A = ℕ} 0 1 = cc in absurd (omega arith)
shown_injective value apart (Err c) (Ok b) e = let z : ◌≡◌ {A = ℕ} 0 1 = cc in absurd (omega arith)
shown_injective value apart (Err c) (Err d) e = let f : c ≡ d = cc in ap Err f

-- a number is its own value
abbrev pub itself : ℕ → ℕ
itself n = n

pub shown-same : (r q : Result ℕ NumberError) → shown itself r ≡ shown itself q → r ≡ q
shown-same = shown_injective itself (λ a b e. e)
