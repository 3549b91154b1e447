use mathlib.Core.Logic.{inl, inr}
use borrow.Author.Tests.{ne_eqb}
use Rattle.edm.specs.Packet.{identifiers, carried}
use Rattle.abi.proofs.packet.packet_by.Goals as goal

-- `packet::packet_by` meets its contract. Assumes nothing.
pub returns-in-17 : goal.returns-in-17
unfolding identifiers carried
returns-in-17 c =
    elim c.in-17.is [
      | inl e ↦ rw e
      | inr (inl e) ↦ rw e
      | inr (inr (inl e)) ↦ rw e
      | inr (inr (inr (inl e))) ↦ rw e
      | inr (inr (inr (inr (inl e)))) ↦ rw e
      | inr (inr (inr (inr (inr e)))) ↦ rw e
    ]

pub returns-in_default : goal.returns-in_default
unfolding identifiers carried
returns-in_default c =
    let id = c.args.id in
    let others = c.in_default.in_default-own.rest in
    rw (
      ne_eqb id 0x36 others.0.0.0.1,
      ne_eqb id 0x44 others.0.0.1,
      ne_eqb id 0x56 others.0.1,
      ne_eqb id 0x11 (λ e. others.1 (inl e)),
      ne_eqb id 0x21 (λ e. others.1 (inr (inl e))),
      ne_eqb id 0x31 (λ e. others.1 (inr (inr (inl e)))),
      ne_eqb id 0x45 (λ e. others.1 (inr (inr (inr (inr (inl e)))))),
      ne_eqb id 0x41 (λ e. others.1 (inr (inr (inr (inl e))))),
      ne_eqb id 0x71 (λ e. others.1 (inr (inr (inr (inr (inr e)))))),
    )
