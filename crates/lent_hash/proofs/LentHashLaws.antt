-- Laws of a hash in lent bytes: what its code cites, and that the bytes hold all of a state. Assumes nothing.
use Prim.Native.Nat.{ℕ, zero, suc, ◌+◌, ◌*◌, ◌%◌, ◌/◌, ◌^◌, ◌≤◌, ◌<◌}
use mathlib.Core.Path.{◌≡◌, refl, sym, ap, ◌∙◌}
use mathlib.Core.List.{List, [], ◌∷◌, ◌++◌, append_assoc}
use native.Mathlib.Omega.{arith}
use native.Mathlib.Nat.{pow-suc}
use lib.ListN.{length, get_or, take, drop, length-append, length-drop, take-append-drop}
use lib.Seq.{take_at, drop_at, take-suc, get_or-drop, drop-drop, length-take-le}
use borrow.Author.Tests.{eq-eqb, ne_eqb}
use mathlib.Core.Bool.{false}
use lib.Dec.{eqb}
use Rattle.limits.specs.Limits.{h_size, block_most, hash_size}
use Rattle.limits.specs.Refusals.{number_of}
use Rattle.limits.specs.declared.Refusal.{Refusal}
use Rattle.limits.specs.declared.Refusal.TheVariants.{NotDue, NoMethod, RoomTooShort, BadInput, OutputTooShort, PayloadSize, OtherMessage, FieldPastEnd, BytesLeft, FieldLength, PointLead, ClassicalFailed, KemFailed, VerdictNo, BadName, NoCommonMethod, NoCommonHostKey, LongMpint, CountSpent}
use Rattle.buffers.specs.Bytes.{Bytes, laid}
use Rattle.buffers.proofs.ByteLaws.{laid_laid, laid_whole}
use Rattle.sha_words.specs.Blocks.{word_at}
use Rattle.sha_words.specs.Message.{bytes_of}
use Rattle.sha_words.proofs.PaddingLaws.{length_bytes_of}
use Rattle.sha_words.proofs.ValueLaws.{word_read}
use Rattle.sha_2.specs.declared.Hash.{Hash}
use Rattle.lent_hash.specs.LentHash.{state_bytes, state_in, by_hash_size}

-- ---- by size

pub size_taken : {A : Type 0} (b : List ℕ) (x y : A) → length b ≡ hash_size → x ≡ by_hash_size b x y
size_taken b x y h = rw (eq-eqb (length b) hash_size h)

pub size_left : {A : Type 0} (b : List ℕ) (x y : A) → (length b ≡ hash_size → ⊥) → y ≡ by_hash_size b x y
size_left b x y h = rw (ne_eqb (length b) hash_size h)

-- ---- a refusal's number

pub refused : (e : Refusal) → eqb (number_of e) 0 ≡ false
refused NotDue = refl
refused NoMethod = refl
refused RoomTooShort = refl
refused BadInput = refl
refused OutputTooShort = refl
refused PayloadSize = refl
refused OtherMessage = refl
refused FieldPastEnd = refl
refused BytesLeft = refl
refused FieldLength = refl
refused PointLead = refl
refused ClassicalFailed = refl
refused KemFailed = refl
refused VerdictNo = refl
refused BadName = refl
refused NoCommonMethod = refl
refused NoCommonHostKey = refl
refused LongMpint = refl
refused CountSpent = refl

-- ---- laid whole

-- five parts, one behind the other
pub laid_five : (l a b c d e : List ℕ) → length a ≡ 1 → length b ≡ 8 → length c ≡ 8 → length d ≡ h_size → length e ≡ block_most → length l ≡ hash_size
    → laid (laid (laid (laid (laid l 0 a) 1 b) 9 c) 17 d) 81 e ≡ a ++ b ++ c ++ d ++ e
laid_five l a b c d e ha hb hc hd he hl =
    let ab = length-append a b in
    let abc = length-append (a ++ b) c in
    let abcd = length-append (a ++ b ++ c) d in
    let abcde = length-append (a ++ b ++ c ++ d) e in
    ap (λ (x : List ℕ). laid (laid (laid x 9 c) 17 d) 81 e) (step 1 [] a b (omega arith) (omega arith))
    ∙ ap (λ (x : List ℕ). laid (laid x 17 d) 81 e) (step 9 a (a ++ b) c (omega arith) (omega arith))
    ∙ ap (λ (x : List ℕ). laid x 81 e) (step 17 a (a ++ b ++ c) d (omega arith) (omega arith))
    ∙ step 81 a (a ++ b ++ c ++ d) e (omega arith) (omega arith)
    ∙ laid_whole l (a ++ b ++ c ++ d ++ e) (omega arith)
  where
    step : (n : ℕ) (o x y : List ℕ) → length x ≡ n → length (x ++ y) ≤ length l → laid (laid l 0 x) n y ≡ laid l 0 (x ++ y)
    step n o x y h k =
        ap (λ (m : ℕ). laid (laid l 0 x) m y) (sym h) ∙ ap (λ (m : ℕ). laid (laid l 0 x) m y) (omega arith) ∙ laid_laid l 0 x y (omega arith)

-- ---- a state that goes into bytes and comes back

parts_flat : (a b c d e : List ℕ) → a ++ b ++ c ++ d ++ e ≡ a ++ (b ++ (c ++ (d ++ e)))
parts_flat a b c d e =
    append_assoc (a ++ b ++ c) d e ∙ append_assoc (a ++ b) c (d ++ e) ∙ append_assoc a b (c ++ (d ++ e))

-- what every state has
pub record Typed (s : Hash) : Type 0 where
  pub total : s.total < 256 ^ 8
  pub held : s.held < 256 ^ 8
  pub value : length s.value ≡ h_size
  pub tail : length s.tail ≡ block_most

pub state_back : (s : Hash) → Typed s → state_in (state_bytes s) ≡ s
unfolding state_bytes state_in
state_back s h =
    let a : List ℕ = s.kind ∷ [] in
    let t : List ℕ = bytes_of 8 s.total in
    let l : List ℕ = bytes_of 8 s.held in
    let v : List ℕ = s.value in
    let u : List ℕ = s.tail in
    let b : List ℕ = a ++ t ++ l ++ v ++ u in
    let at : length (a ++ t) ≡ 9 = length-append a t ∙ omega (arith, length_bytes_of 8 s.total) in
    let atl : length (a ++ t ++ l) ≡ 17 = length-append (a ++ t) l ∙ omega (arith, length_bytes_of 8 s.held) in
    let atlv : length (a ++ t ++ l ++ v) ≡ 81 = length-append (a ++ t ++ l) v ∙ omega (arith, h.value) in
    let total : word_at b 1 8 ≡ s.total =
    ap (λ (x : List ℕ). word_at x 1 8) (parts_flat a t l v u) ∙ word_read 8 s.total a (l ++ (v ++ u)) h.total in
    let held : word_at b 9 8 ≡ s.held =
    ap (λ (x : List ℕ). word_at x 9 8) (append_assoc (a ++ t ++ l) v u ∙ append_assoc (a ++ t) l (v ++ u))
    ∙ ap (λ (n : ℕ). word_at ((a ++ t) ++ (l ++ (v ++ u))) n 8) (sym at) ∙ word_read 8 s.held (a ++ t) (v ++ u) h.held in
    let value : take h_size (drop 17 b) ≡ v =
    ap (λ (x : List ℕ). take h_size (drop 17 x)) (append_assoc (a ++ t ++ l) v u)
    ∙ ap (take h_size) (drop_at (a ++ t ++ l) (v ++ u) 17 atl) ∙ take_at v u h_size h.value in
    let tail : drop 81 b ≡ u = drop_at (a ++ t ++ l ++ v) u 81 atlv in
    λ i. record { kind = s.kind; total = total i; held = held i; value = value i; tail = tail i }

-- ---- bytes that are read as a state and written again

bytes_word : (n : ℕ) (b : List ℕ) (at : ℕ) → Bytes b → at + n ≤ length b → bytes_of n (word_at b at n) ≡ take n (drop at b)
bytes_word zero b at g h = refl
bytes_word (suc n) b at g h =
    let x : ℕ = word_at b at n in
    let d : ℕ = get_or b (at + n) 0 in
    let less : d < 256 = g (at + n) in
    let q : (x * 256 + d) / 256 ≡ x = omega arith in
    let r : (x * 256 + d) % 256 ≡ d = omega arith in
    (λ i. bytes_of n (q i) ++ (r i ∷ []))
    ∙ (λ i. bytes_word n b at g (omega arith) i ++ (sym (get_or-drop at b n 0) i ∷ []))
    ∙ sym (take-suc (drop at b) n 0 (omega (arith, length-drop at b)))

pub bytes_back : (b : List ℕ) → Bytes b → length b ≡ hash_size → state_bytes (state_in b) ≡ b
unfolding state_bytes state_in
bytes_back b g h =
    let one : get_or b 0 0 ∷ [] ≡ take 1 b = sym (take-suc b 0 0 (omega arith)) in
    let cut : (m n : ℕ) → take n (drop m b) ++ drop (m + n) b ≡ drop m b = λ m n. ap (λ (x : List ℕ). take n (drop m b) ++ x) (sym (drop-drop n m b)) ∙ take-append-drop n (drop m b) in
    (λ i. one i ++ bytes_word 8 b 1 g (omega arith) i ++ bytes_word 8 b 9 g (omega arith) i ++ take h_size (drop 17 b) ++ drop 81 b)
    ∙ parts_flat (take 1 b) (take 8 (drop 1 b)) (take 8 (drop 9 b)) (take h_size (drop 17 b)) (drop 81 b)
    ∙ ap (λ (x : List ℕ). take 1 b ++ (take 8 (drop 1 b) ++ (take 8 (drop 9 b) ++ x))) (cut 17 h_size)
    ∙ ap (λ (x : List ℕ). take 1 b ++ (take 8 (drop 1 b) ++ x)) (cut 9 8)
    ∙ ap (λ (x : List ℕ). take 1 b ++ x) (cut 1 8)
    ∙ take-append-drop 1 b

word_less : (n : ℕ) (b : List ℕ) (at : ℕ) → Bytes b → word_at b at n < 256 ^ n
word_less zero b at g = omega arith
word_less (suc n) b at g =
    let x : ℕ = word_at b at n in
    let l : x < 256 ^ n = word_less n b at g in
    let d : get_or b (at + n) 0 < 256 = g (at + n) in
    rw pow-suc (omega arith)

-- the state in bytes is one that goes into bytes
pub typed_in : (b : List ℕ) → Bytes b → length b ≡ hash_size → Typed (state_in b)
unfolding state_in
typed_in b g h =
    record {
      total = word_less 8 b 1 g;
      held = word_less 8 b 9 g;
      value = length-take-le h_size (drop 17 b) (omega (arith, length-drop 17 b));
      tail = length-drop 81 b ∙ omega arith;
    }
