-- An integer has one shortest two's complement: what is written depends on the integer alone, and no other bytes of that integer
-- are fewer. Assumes nothing.
use Prim.Native.Nat.{ℕ, zero, suc, ◌+◌, ◌-◌, ◌*◌, ◌≤◌, ◌<◌}
use mathlib.Core.Path.{◌≡◌, refl, sym, ap, ◌∙◌}
use mathlib.Core.List.{List, [], ◌∷◌}
use mathlib.Core.Bool.{Bool, true, false, cond, false≢true}
use native.Mathlib.Omega.{arith}
use lib.IntN.{ℤ, pos, negsuc, ◌+ℤ◌, ◌*ℤ◌}
use lib.ListN.{length}
use lib.Dec.{ltb, leb}
use borrow.Author.Tests.{ltb-false, le-leb, leb-true, leb-false}
use Rattle.buffers.specs.Bytes.{Bytes}
use Rattle.buffers.proofs.ByteLaws.{bytes_tail, bytes_cons}
use Rattle.mpint.specs.Mpint.{excess, shortest}
use Rattle.mpint.specs.Value.{go_on, value}
use Rattle.mpint.proofs.MpintLaws.{length_shortest, shortest_shortest, shortest_bytes}
use Rattle.mpint.proofs.ValueLaws.{negsuc_byte, value_excess, value_shortest}

-- an integer and a byte are found again in the integer times 256 and the byte
digit : (v w : ℤ) (b c : ℕ) → b < 256 → c < 256 → v *ℤ pos 256 +ℤ pos b ≡ w *ℤ pos 256 +ℤ pos c → (v ≡ w) × (b ≡ c)
digit (pos v) (pos w) b c hb hc e =
    let n : v * 256 + b ≡ w * 256 + c = cc in
    let p : v ≡ w = omega arith in
    (ap pos p, omega arith)
digit (pos v) (negsuc w) b c hb hc e =
    let f = negsuc_byte w c hc in
    let z : ◌≡◌ {A = ℕ} 0 1 = cc in let u : ⊥ = omega arith in absurd u
digit (negsuc v) (pos w) b c hb hc e =
    let f = negsuc_byte v b hb in
    let z : ◌≡◌ {A = ℕ} 0 1 = cc in let u : ⊥ = omega arith in absurd u
digit (negsuc v) (negsuc w) b c hb hc e =
    let f = negsuc_byte v b hb in
    let g = negsuc_byte w c hc in
    let n : v * 256 + (255 - b) ≡ w * 256 + (255 - c) = cc in
    let p : v ≡ w = omega arith in
    (ap negsuc p, omega arith)

go_on_injective : (v w : ℤ) (l m : List ℕ) → Bytes l → Bytes m → length l ≡ length m → go_on v l ≡ go_on w m → (v ≡ w) × (l ≡ m)
go_on_injective v w [] [] hl hm n e = (e, refl)
go_on_injective v w [] (c ∷ m) hl hm n e = let u : ⊥ = omega arith in absurd u
go_on_injective v w (b ∷ l) [] hl hm n e = let u : ⊥ = omega arith in absurd u
go_on_injective v w (b ∷ l) (c ∷ m) hl hm n e =
    let r = go_on_injective (v *ℤ pos 256 +ℤ pos b) (w *ℤ pos 256 +ℤ pos c) l m (bytes_tail b l hl) (bytes_tail c m hm) (omega arith) e in
    let d = digit v w b c (hl 0) (hm 0) r.0 in
    (d.0, (λ i. d.1 i ∷ r.1 i))

-- of one length, the bytes are fixed by the integer
value_injective : (l m : List ℕ) → Bytes l → Bytes m → length l ≡ length m → value l ≡ value m → l ≡ m
value_injective [] [] hl hm n e = refl
value_injective [] (c ∷ m) hl hm n e = let u : ⊥ = omega arith in absurd u
value_injective (b ∷ l) [] hl hm n e = let u : ⊥ = omega arith in absurd u
value_injective (b ∷ l) (c ∷ m) hl hm n e =
    (go_on_injective (cond (ltb b 128) (pos 0) (negsuc 0)) (cond (ltb c 128) (pos 0) (negsuc 0)) (b ∷ l) (c ∷ m) hl hm n e).1

-- the byte that can stand in front without a change
abbrev sign_byte : List ℕ → ℕ
sign_byte [] = 0
sign_byte (a ∷ r) = cond (ltb a 128) 0 255

sign_byte_lem : (l : List ℕ) → (sign_byte l < 256) × (excess (sign_byte l ∷ l) ≡ true)
sign_byte_lem [] = (omega arith, refl)
sign_byte_lem (a ∷ r) = by_test (ltb a 128) refl
  where
    by_test : (t : Bool) → ltb a 128 ≡ t → (cond t 0 255 < 256) × (excess (cond t 0 255 ∷ a ∷ r) ≡ true)
    by_test true e = (omega arith, e)
    by_test false e = (omega arith, le-leb 128 a (ltb-false a 128 e))

-- a shortest list is not longer than another of the same integer: it is that one
longer : (n : ℕ) (l m : List ℕ) → Bytes l → Bytes m → length m ≡ n + length l → excess m ≡ false → value l ≡ value m → l ≡ m
longer zero l m hl hm n x e = value_injective l m hl hm (omega arith) e
longer (suc k) l m hl hm n x e =
    let s = sign_byte_lem l in
    let i = longer k (sign_byte l ∷ l) m (bytes_cons (sign_byte l) l s.0 hl) hm (omega arith) x (value_excess (sign_byte l) l s.1 ∙ e) in
    absurd (false≢true (sym x ∙ ap excess (sym i) ∙ s.1))

-- two shortest bodies of one integer are the same
pub shortest_unique : (l m : List ℕ) → Bytes l → Bytes m → excess l ≡ false → excess m ≡ false → value l ≡ value m → l ≡ m
shortest_unique l m hl hm x y e = by_test (leb (length l) (length m)) refl
  where
    by_test : (t : Bool) → leb (length l) (length m) ≡ t → l ≡ m
    by_test true p = let h = leb-true (length l) (length m) p in longer (length m - length l) l m hl hm (omega arith) y e
    by_test false p = let h = leb-false (length l) (length m) p in sym (longer (length l - length m) m l hm hl (omega arith) x (sym e))

-- one integer is written in one way
pub shortest_value : (l m : List ℕ) → Bytes l → Bytes m → value l ≡ value m → shortest l ≡ shortest m
shortest_value l m hl hm e =
    shortest_unique (shortest l) (shortest m) (shortest_bytes l hl) (shortest_bytes m hm) (shortest_shortest l) (shortest_shortest m)
    (value_shortest l ∙ e ∙ sym (value_shortest m))

-- and no bytes of that integer are fewer
pub shortest_least : (l m : List ℕ) → Bytes l → Bytes m → value l ≡ value m → length (shortest l) ≤ length m
shortest_least l m hl hm e = let s = ap length (shortest_value l m hl hm e) in let k = length_shortest m in omega arith
