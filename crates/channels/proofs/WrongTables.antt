-- What every `fresh` and every `feed` that meets its contract does, so that wrong ones do not meet it. Assumes nothing.
use Prim.Native.Nat.{ℕ}
use mathlib.Core.Path.{◌≡◌, ap, ◌∙◌}
use mathlib.Core.Bool.{true, false}
use seplogic.Ra.Ura.{Ura}
use base.Logic.{SProp, ent}
use prog.Memory.{Memory}
use prog.Routine.{Routine}
use types.Logic.{Logic}
use contract.Lifetimes.{Lfts}
use contract.Monad.{Fun, fact}
use denote.Triple.Clauses.{AtExit}
use borrow.Fn.Kinds.{Dens, ended_of}
use Rattle.edm.specs.Frame.{read_frame}
use Rattle.channels.specs.declared.Channels.{Channels}
use Rattle.channels.specs.declared.cell.Row.{Row}
use Rattle.channels.specs.Machine.{Arrival, connects, disconnects, has_data, other, is_refused, Machine, brings, closed, is_closed, reopened_more, reclosed_more, stray_more, refused_more, stepped, step}
use Rattle.channels.specs.View.{view, counts_of}
use Rattle.channels.proofs.Facts.{entails}
use Rattle.channels.proofs.MachineLaws.{put_there, put_elsewhere}
use Rattle.channels.proofs.Programs.{Feeding, before, frame_of, after, fed, fed_step}
use Rattle.channels.proofs.fresh as made

-- a fresh table that has the last channel open, or starts to count at 1
pub all_closed : (κs : Lfts 0) (a : Dens κs made.Kinds.ps) (t : Channels) (s : AtExit (ended_of 0 made.Kinds.ps made.Kinds.r) κs) → made.Reads.Post κs a t s → ((view t).rows 255 ≡ closed) × ((view t).counts ≡ counts_of 0 0 0 0)
all_closed κs a t s p = (ap (λ (m : Machine). m.rows 255) p, ap (λ (m : Machine). m.counts) p)

module _ {M : Type 1} {𝓤 : Ura M} (𝓛 : Logic 𝓤) (mem : Memory → SProp 𝓤) (call : Routine → Fun 𝓤) (f : Feeding) where
  abbrev Says : Type 0 → Type 1
  Says φ = ent 𝓤 (fed 𝓛 mem call f) (fact 𝓤 φ)

  abbrev earlier : Machine
  earlier = view (before f)

  abbrev later : Machine
  later = view (after f)

  -- the frame says this
  abbrev Arrives : Arrival → Type 0
  Arrives a = brings (frame_of f) (read_frame (frame_of f)) ≡ a

  leaves : (a : Arrival) → Arrives a → Says (later ≡ stepped earlier a)
  unfolding step
  leaves a e = entails 𝓤 (fed_step 𝓛 mem call f) (λ s. s ∙ ap (stepped earlier) e)

  -- a table that keeps the old address at a reconnect; one that lets another channel's row change
  pub connect_opens : (c : ℕ) (row : Row) → Arrives (connects c row) → Says ((later.rows c ≡ row) × ((d : ℕ) → (d ≡ c → ⊥) → later.rows d ≡ earlier.rows d))
  connect_opens c row e =
      entails 𝓤 (leaves (connects c row) e) (λ s. (
        ap (λ (m : Machine). m.rows c) s ∙ put_there earlier.rows c row,
        λ d h. ap (λ (m : Machine). m.rows d) s ∙ put_elsewhere earlier.rows c d row h,
      ))

  -- a table that leaves the channel open, or keeps its address; one that closes another one
  pub disconnect_closes : (c : ℕ) → Arrives (disconnects c) → Says ((later.rows c ≡ closed) × ((d : ℕ) → (d ≡ c → ⊥) → later.rows d ≡ earlier.rows d))
  disconnect_closes c e =
      entails 𝓤 (leaves (disconnects c) e) (λ s. (
        ap (λ (m : Machine). m.rows c) s ∙ put_there earlier.rows c closed,
        λ d h. ap (λ (m : Machine). m.rows d) s ∙ put_elsewhere earlier.rows c d closed h,
      ))

  -- tables that forget to count, or count what they should not
  pub reconnect_counted : (c : ℕ) (row : Row) → Arrives (connects c row) → is_closed (earlier.rows c) ≡ false → Says (later.counts ≡ reopened_more earlier.counts)
  reconnect_counted c row e h = entails 𝓤 (leaves (connects c row) e) (λ s. ap (λ (m : Machine). m.counts) s ∙ rw h)

  pub first_connect_not-counted : (c : ℕ) (row : Row) → Arrives (connects c row) → is_closed (earlier.rows c) ≡ true → Says (later.counts ≡ earlier.counts)
  first_connect_not-counted c row e h = entails 𝓤 (leaves (connects c row) e) (λ s. ap (λ (m : Machine). m.counts) s ∙ rw h)

  pub closed_again_counted : (c : ℕ) → Arrives (disconnects c) → is_closed (earlier.rows c) ≡ true → Says (later.counts ≡ reclosed_more earlier.counts)
  closed_again_counted c e h = entails 𝓤 (leaves (disconnects c) e) (λ s. ap (λ (m : Machine). m.counts) s ∙ rw h)

  pub stray_counted : (c : ℕ) → Arrives (has_data c) → is_closed (earlier.rows c) ≡ true → Says (later ≡ record { rows = earlier.rows; counts = stray_more earlier.counts })
  stray_counted c e h = entails 𝓤 (leaves (has_data c) e) (λ s. s ∙ rw h)

  pub data_on_open_changes_nothing : (c : ℕ) → Arrives (has_data c) → is_closed (earlier.rows c) ≡ false → Says (later ≡ earlier)
  data_on_open_changes_nothing c e h = entails 𝓤 (leaves (has_data c) e) (λ s. s ∙ rw h)

  pub other_changes_nothing : Arrives other → Says (later ≡ earlier)
  other_changes_nothing e = leaves other e

  -- a table that drops a row, or counts twice, where a frame is refused
  pub refused-only-counted : Arrives is_refused → Says (later ≡ record { rows = earlier.rows; counts = refused_more earlier.counts })
  refused-only-counted e = leaves is_refused e
