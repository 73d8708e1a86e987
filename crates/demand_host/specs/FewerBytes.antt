-- Asking for fewer bytes gives a beginning of what more bytes give: two calls of `castulfrisa_derive`, each told by `Reads.Learnt` of it, on the same exchange and for the
-- same letter. Where the one for more is accepted, so is the other, to an output that is long enough, and its bytes are the beginning. Assumes nothing.
use Rattle.std.specs.Prelude.{ℕ, ◌≤◌, ◌≡◌, length, take}
use contract.Lifetimes.{Lfts}
use denote.Triple.Clauses.{AtExit}
use borrow.Fn.World.{ArgsD}
use Rattle.boundary.specs.contracts.castulfrisa_derive as derive-fn
use Rattle.boundary.proofs.castulfrisa_derive.Reads as derive-reads

abbrev pub FewerBytes : Type 0
FewerBytes =
    (κs κs' : Lfts 2) (a : ArgsD derive-fn.signature κs) (a' : ArgsD derive-fn.signature κs') (r r' : ℕ) (s : AtExit derive-fn.ended κs) (s' : AtExit derive-fn.ended κs')
    → derive-reads.Learnt κs a r s → derive-reads.Learnt κs' a' r' s' → a.0.now ≡ a'.0.now → a.1.0 ≡ a'.1.0
    → 1 ≤ a.1.1.0 → a.1.1.0 ≤ a'.1.1.0 → a.1.1.0 ≤ length a.1.1.1.0.now → r' ≡ 0
    → (r ≡ 0) × (take a.1.1.0 s'.1.1.1.0.now ≡ take a.1.1.0 s.1.1.1.0.now)
