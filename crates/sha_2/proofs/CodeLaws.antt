-- Laws that the code of feeding and finishing cites, over the width: a block filled up and the blocks behind it, the bytes that are left, and
-- the message's end. Assumes nothing.
use Prim.Native.Nat.{ℕ, ◌+◌, ◌-◌, ◌*◌, ◌%◌, ◌≤◌, ◌<◌}
use mathlib.Core.Path.{◌≡◌, sym, ap, ◌∙◌}
use mathlib.Core.List.{List, [], ◌++◌, append_assoc}
use native.Mathlib.Omega.{arith}
use lib.ListN.{length, take, drop, length-append, take-append-drop}
use lib.Seq.{drop-append-le, drop-append-add, length-take-le}
use Rattle.limits.specs.Limits.{block_most}
use Rattle.buffers.specs.Bytes.{laid}
use Rattle.buffers.proofs.ByteLaws.{tail_part}
use Rattle.sha_words.specs.Words.{Width}
use Rattle.sha_words.specs.Constants.{width_of}
use Rattle.sha_words.specs.Message.{bytes_of, padding, padded, behind, sized, value_after}
use Rattle.sha_words.proofs.SizedLaws.{length_sized, take_sized, take_sized_more}
use Rattle.sha_words.proofs.ChainLaws.{length_behind, behind_parts}
use Rattle.sha_words.proofs.PaddingLaws.{Sizes, sizes_of_lem, begun, length_begun, ends_one, ends_two, counted}
use Rattle.sha_words.proofs.ValueLaws.{value_after_then, value_after_parts}
use Rattle.sha_2.specs.declared.Hash.{Hash}
use Rattle.sha_2.specs.Hash.{waiting, grown, Ending}

-- ---- the last bytes of two lists

pub last_right : (a b : List ℕ) (n : ℕ) → n ≤ length b → drop (length a + length b - n) (a ++ b) ≡ drop (length b - n) b
last_right a b n h =
    let e : length a + length b - n ≡ length a + (length b - n) = omega arith in rw e (drop-append-add a b (length b - n))

pub last_left : (a b : List ℕ) (n : ℕ) → length b ≤ n → n ≤ length a + length b
    → drop (length a + length b - n) (a ++ b) ≡ drop (length a - (n - length b)) a ++ b
last_left a b n h k =
    let e : length a + length b - n ≡ length a - (n - length b) = omega arith in
    rw e (drop-append-le (length a - (n - length b)) a b (omega arith))

-- ---- a block filled up, and the blocks behind it

pub absorbed : (p : Width) (v before part first x y : List ℕ) (size cut : ℕ) → Sizes p → size ≡ p.block → length before + cut ≡ p.block
    → cut ≤ length part → first ≡ sized block_most (before ++ take (cut - 0) part) → x ≡ value_after p v (take (size - 0) first)
    → y ≡ value_after p x (take (length part - cut) (drop cut part)) → y ≡ value_after p v (before ++ part)
absorbed p v before part first x y size cut sizes z h k e ex ey =
    let f : List ℕ = before ++ take cut part in
    let c : cut - 0 ≡ cut = omega arith in
    let s : size - 0 ≡ p.block = omega arith in
    let l : length f ≡ p.block = length-append before (take cut part) ∙ ap (λ (n : ℕ). length before + n) (length-take-le cut part k) ∙ h in
    let g : take (size - 0) first ≡ f =
    ap (λ (n : ℕ). take n first) s ∙ ap (take p.block) (e ∙ ap (λ (n : ℕ). sized block_most (before ++ take n part)) c) ∙ take_sized block_most p.block f l in
    let j : f ++ drop cut part ≡ before ++ part = append_assoc before (take cut part) (drop cut part) ∙ ap (λ (t : List ℕ). before ++ t) (take-append-drop cut part) in
    ey ∙ ap (value_after p x) (tail_part part cut) ∙ ap (λ (t : List ℕ). value_after p t (drop cut part)) (ex ∙ ap (value_after p v) g)
    ∙ value_after_then p v f (drop cut part) sizes l ∙ ap (value_after p v) j

-- ---- a state grown

pub grown_of : (s : Hash) (before part t v : List ℕ) (held : ℕ) → before ≡ take s.held s.tail
    → held ≡ (length before + length part) % (width_of s.kind).block → v ≡ value_after (width_of s.kind) s.value (before ++ part)
    → t ≡ sized block_most (drop (length before + length part - held) (before ++ part))
    → ◌≡◌ {A = Hash} (record { kind = s.kind; total = s.total + length part; held = held; value = v; tail = t }) (grown s part)
unfolding grown behind
grown_of s before part t v held w h ev et =
    let p : Width = width_of s.kind in
    let m : List ℕ = before ++ part in
    let q : m ≡ waiting s part = ap (λ (l : List ℕ). l ++ part) w in
    let r : drop (length before + length part - held) m ≡ behind p (waiting s part) = rw (h, ← length-append before part) (ap (behind p) q) in
    let n : held ≡ length (behind p (waiting s part)) =
    h ∙ ap (λ (k : ℕ). k % p.block) (sym (length-append before part)) ∙ sym (length_behind p m) ∙ ap (λ (l : List ℕ). length (behind p l)) q in
    λ i.
    record {
      kind = s.kind;
      total = s.total + length part;
      held = n i;
      value = (ev ∙ ap (value_after p s.value) q) i;
      tail = (et ∙ ap (sized block_most) r) i;
    }

-- ---- the message's end

module _ (kind : ℕ) (v before : List ℕ) (total : ℕ) (ending : Ending kind before total) where
  abbrev p : Width
  p = width_of kind

  sizes : Sizes p
  sizes = sizes_of_lem kind

  abbrev count : List ℕ
  count = bytes_of 3 (8 * total)

  -- in one block
  pub last_one : (b x : List ℕ) (n : ℕ) → n ≡ p.block → length before + 1 + 2 * p.bytes ≤ p.block
      → b ≡ laid (sized block_most (begun before)) (p.block - 3) count → x ≡ value_after p v (take n b)
      → x ≡ value_after p v (before ++ padding p total)
  last_one b x n z h eb ex =
      ex ∙ ap (λ (k : ℕ). value_after p v (take k b)) z ∙ ap (λ (t : List ℕ). value_after p v (take p.block t)) eb
      ∙ ap (value_after p v) (
      counted p before total sizes ending.waits ending.most (begun before) (omega (arith, length_begun before, sizes.three))
      ∙ sym (ends_one p before total sizes ending.waits ending.most h))

  -- in two
  pub last_two : (a b x y : List ℕ) (n : ℕ) → n ≡ p.block → p.block < length before + 1 + 2 * p.bytes → length before < p.block
      → a ≡ sized block_most (begun before) → x ≡ value_after p v (take n a)
      → b ≡ laid (sized block_most []) (p.block - 3) count → y ≡ value_after p x (take n b)
      → y ≡ value_after p v (before ++ padding p total)
  last_two a b x y n z h less ea ex eb ey =
      let l : length (begun before) ≤ p.block = omega (arith, length_begun before) in
      let f : take n a ≡ sized p.block (begun before) =
      ap (λ (k : ℕ). take k a) z ∙ ap (take p.block) ea ∙ take_sized_more block_most p.block (begun before) l sizes.most in
      let g : take n b ≡ sized (p.block - 3) [] ++ count =
      ap (λ (k : ℕ). take k b) z ∙ ap (take p.block) eb
      ∙ counted p before total sizes ending.waits ending.most [] (omega arith) in
      ey ∙ ap (value_after p x) g ∙ ap (λ (t : List ℕ). value_after p t (sized (p.block - 3) [] ++ count)) (ex ∙ ap (value_after p v) f)
      ∙ value_after_then p v (sized p.block (begun before)) (sized (p.block - 3) [] ++ count) sizes (length_sized p.block (begun before) l)
      ∙ ap (value_after p v) (sym (ends_two p before total sizes ending.waits ending.most h))

-- ---- two parts, to their end

-- what stands behind the whole blocks of a, as the code cuts it
pub behind_code : (p : Width) (a : List ℕ) (size : ℕ) → size ≡ p.block
    → take (length a - (length a - length a % size)) (drop (length a - length a % size) a) ≡ behind p a
unfolding behind
behind_code p a size h = tail_part a (length a - length a % size) ∙ ap (λ (n : ℕ). drop (length a - length a % n) a) h

pub both_ended : (p : Width) (w a b before x y r v : List ℕ) (n total : ℕ) → Sizes p → x ≡ value_after p w a → before ≡ behind p a
    → y ≡ value_after p x (before ++ b) → n ≡ (length before + length b) % p.block
    → r ≡ sized block_most (drop (length before + length b - n) (before ++ b))
    → total ≡ length a + length b → v ≡ value_after p y (take n r ++ padding p total)
    → v ≡ value_after p w (padded p (a ++ b))
unfolding behind
both_ended p w a b before x y r v n total sizes ex eb ey en er et ev =
    let m : List ℕ = before ++ b in
    let k : n ≡ length m % p.block = en ∙ ap (λ (j : ℕ). j % p.block) (sym (length-append before b)) in
    let d : drop (length before + length b - n) m ≡ behind p m = rw (← length-append before b, k) in
    let t : take n r ≡ behind p (a ++ b) =
    ap (take n) (er ∙ ap (sized block_most) d) ∙ take_sized block_most n (behind p m) (length_behind p m ∙ sym k)
    ∙ ap (λ (l : List ℕ). behind p (l ++ b)) eb ∙ behind_parts p a b in
    let z : y ≡ value_after p w (a ++ b) = ey ∙ (λ i. value_after p (ex i) (eb i ++ b)) ∙ value_after_parts p w a b sizes in
    ev ∙ (λ i. value_after p (z i) (t i ++ padding p (total_is i)))
    ∙ value_after_parts p w (a ++ b) (padding p (length (a ++ b))) sizes
  where
    total_is : total ≡ length (a ++ b)
    total_is = et ∙ sym (length-append a b)
