-- Facts that assertions entail, one or two of them. Says nothing of the crate. Assumes nothing.
use seplogic.Ra.Ura.{Ura}
use base.Logic.{SProp, ent, via}
use contract.Conj.{conj, conj_l, conj_r}
use contract.Monad.{fact, fact_i, fact_use, fact_mono}

module _ {M : Type 1} (𝓤 : Ura M) where
  pub entails : {P : SProp 𝓤} {φ χ : Type 0} → ent 𝓤 P (fact 𝓤 φ) → (φ → χ) → ent 𝓤 P (fact 𝓤 χ)
  entails {P} {φ} {χ} p f = via 𝓤 (fact 𝓤 φ) p (fact_mono 𝓤 φ χ f)

  pub both_entail : {P Q : SProp 𝓤} {φ ψ χ : Type 0} → ent 𝓤 P (fact 𝓤 φ) → ent 𝓤 Q (fact 𝓤 ψ) → (φ → ψ → χ) → ent 𝓤 (conj 𝓤 P Q) (fact 𝓤 χ)
  both_entail {P} {Q} {φ} {ψ} {χ} p q f = fact_use 𝓤 φ (via 𝓤 P (conj_l 𝓤 P Q) p) (λ x. fact_use 𝓤 ψ (via 𝓤 Q (conj_r 𝓤 P Q) q) (λ y. fact_i 𝓤 χ (conj 𝓤 P Q) (f x y)))
