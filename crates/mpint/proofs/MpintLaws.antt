-- Laws of `specs/Mpint.antt`. Assumes nothing.
use Prim.Native.Nat.{ℕ, ◌+◌, ◌≤◌, ◌<◌}
use mathlib.Core.Path.{◌≡◌, refl, ap, ◌∙◌}
use mathlib.Core.List.{List, [], ◌∷◌}
use mathlib.Core.Bool.{Bool, true, false, cond, false≢true}
use native.Mathlib.Omega.{arith}
use lib.ListN.{length, drop}
use borrow.Author.Rules.{rules}
use Rattle.std.specs.Prelude.{Result, Ok, Err, pos}
use Rattle.std.specs.Result.{ResultUnwrapsOrElse}
use Rattle.limits.specs.declared.Refusal.{Refusal}
use Rattle.wire.specs.Parts.{nothing}
use Rattle.mpint.specs.Mpint.{mpint_told}
use Rattle.mpint.specs.declared.MpintAndRest.{MpintAndRest}
use Rattle.mpint.specs.contracts.MpintAndRestDefault.TheImpl.{is_default-value as AllAreDefault}
use Rattle.buffers.specs.Bytes.{Bytes}
use Rattle.wire.specs.Strings.{whole, read_string}
use Rattle.buffers.proofs.ByteLaws.{bytes_tail}
use Rattle.wire.proofs.StringLaws.{read_within}
use Rattle.mpint.specs.Mpint.{excess, shortest, sign_of, body_of, mpint_refused, read_mpint}
use Rattle.mpint.specs.Mpint.{MpintRead}

-- ---- shortest

pub shortest_more : (l : List ℕ) → excess l ≡ true → (0 < length l) × (shortest l ≡ shortest (drop 1 l))
unfolding shortest
shortest_more [] e = absurd (false≢true e)
shortest_more (a ∷ r) e = (omega arith, rw e)

pub shortest_done : (l : List ℕ) → excess l ≡ false → shortest l ≡ l
unfolding shortest
shortest_done [] e = refl
shortest_done (a ∷ r) e = rw e

pub length_shortest : (l : List ℕ) → length (shortest l) ≤ length l
unfolding shortest
length_shortest [] = omega arith
length_shortest (a ∷ r) = by_test (excess (a ∷ r)) (length_shortest r)
  where
    by_test : (t : Bool) → length (shortest r) ≤ length r → length (cond t (shortest r) (a ∷ r)) ≤ length (a ∷ r)
    by_test true h = omega arith
    by_test false h = omega arith

pub shortest_shortest : (l : List ℕ) → excess (shortest l) ≡ false
unfolding shortest
shortest_shortest [] = refl
shortest_shortest (a ∷ r) = by_test (excess (a ∷ r)) refl (shortest_shortest r)
  where
    by_test : (t : Bool) → excess (a ∷ r) ≡ t → excess (shortest r) ≡ false → excess (cond t (shortest r) (a ∷ r)) ≡ false
    by_test true e h = h
    by_test false e h = e

pub shortest_bytes : (l : List ℕ) → Bytes l → Bytes (shortest l)
unfolding shortest
shortest_bytes [] h = h
shortest_bytes (a ∷ r) h = by_test (excess (a ∷ r)) (shortest_bytes r (bytes_tail a r h))
  where
    by_test : (t : Bool) → Bytes (shortest r) → Bytes (cond t (shortest r) (a ∷ r))
    by_test true k = k
    by_test false k = h

-- ---- read_mpint

module _ (s : List ℕ) where
  pub mpint_cut : whole s ≡ false → mpint_refused 12 ≡ read_mpint s
  unfolding read_mpint
  mpint_cut w = rw w

  pub mpint_long : whole s ≡ true → excess (body_of s) ≡ true → mpint_refused 22 ≡ read_mpint s
  unfolding read_mpint
  mpint_long w x = rw (w, x)

  pub mpint_found : whole s ≡ true → excess (body_of s) ≡ false
      → ◌≡◌ {A = MpintRead} (record { number = 0; sign = sign_of (body_of s); body = (read_string s).body; rest = (read_string s).rest }) (read_mpint s)
  unfolding read_mpint
  mpint_found w x = rw (w, x)

  -- what is known of an input by the number 0
  pub mpint_zero : (read_mpint s).number ≡ 0 → (whole s ≡ true) × (excess (body_of s) ≡ false)
  unfolding read_mpint
  mpint_zero z = by_test (whole s) (excess (body_of s)) z
    where
      by_test : (t u : Bool)
          → (cond t (cond u (mpint_refused 22) (record { number = 0; sign = sign_of (body_of s); body = (read_string s).body; rest = (read_string s).rest })) (mpint_refused 12)).number ≡ 0
          → (t ≡ true) × (u ≡ false)
      by_test true true e = let w : ⊥ = omega arith in absurd w
      by_test true false e = (refl, refl)
      by_test false u e = let w : ⊥ = omega arith in absurd w

  -- both parts lie within the input, a refusal's too
  pub mpint_within : ((read_mpint s).body.start + (read_mpint s).body.len ≤ length s) × ((read_mpint s).rest.start + (read_mpint s).rest.len ≤ length s)
  unfolding read_mpint
  mpint_within = by_test (whole s) (excess (body_of s)) (read_within s)
    where
      read : Bool → Bool → MpintRead
      read t u = cond t (cond u (mpint_refused 22) (record { number = 0; sign = sign_of (body_of s); body = (read_string s).body; rest = (read_string s).rest })) (mpint_refused 12)

      by_test : (t u : Bool)
          → ((read_string s).body.start + (read_string s).body.len ≤ length s) × ((read_string s).rest.start + (read_string s).rest.len ≤ length s)
          → ((read t u).body.start + (read t u).body.len ≤ length s) × ((read t u).rest.start + (read t u).rest.len ≤ length s)
      by_test true true h = (omega arith, omega arith)
      by_test true false h = h
      by_test false u h = (omega arith, omega arith)

  -- what a caller takes of an answer, empty parts and no sign where it is a refusal
  pub parts_found : (r : Result MpintAndRest Refusal) (v : MpintAndRest) → ResultUnwrapsOrElse r AllAreDefault.it v → mpint_told r ≡ read_mpint s
      → (v.body ≡ (read_mpint s).body) × (v.rest ≡ (read_mpint s).rest) × (v.sign ≡ (read_mpint s).sign)
  parts_found (Ok x) v h e = (
    ap (λ (y : MpintAndRest). y.body) h ∙ ap (λ (y : MpintRead). y.body) e,
    ap (λ (y : MpintAndRest). y.rest) h ∙ ap (λ (y : MpintRead). y.rest) e,
    ap (λ (y : MpintAndRest). y.sign) h ∙ ap (λ (y : MpintRead). y.sign) e,
  )
  parts_found (Err f) v h e =
      let b : v.body ≡ nothing = search rules in
      let t : v.rest ≡ nothing = search rules in
      let g : v.sign ≡ pos 0 = search rules in (
        b ∙ ap (λ (x : MpintRead). x.body) e,
        t ∙ ap (λ (x : MpintRead). x.rest) e,
        g ∙ ap (λ (x : MpintRead). x.sign) e,
      )
