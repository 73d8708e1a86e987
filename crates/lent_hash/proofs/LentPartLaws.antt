-- Feeding in parts where the host stands: an empty part changes no byte, two parts are as one, the second of two that are too many is refused, and
-- what is fed in any list of parts, each of which is taken, and finished is the digest of the whole. Assumes nothing.
use Prim.Native.Nat.{ℕ, ◌+◌, ◌≤◌}
use mathlib.Core.Path.{◌≡◌, refl, sym, ap, subst, ◌∙◌}
use mathlib.Core.List.{List, [], ◌∷◌, ◌++◌}
use mathlib.Core.Bool.{Bool, true, false, cond, ◌&&◌, and-eq-true_iff}
use native.Mathlib.Omega.{arith}
use lib.Dec.{leb, eqb}
use lib.ListN.{length, length-append}
use borrow.Author.Tests.{leb-true}
use Rattle.limits.specs.Limits.{hash_most, h_size, hash_size}
use Rattle.buffers.specs.Bytes.{Bytes}
use Rattle.sha_words.specs.Constants.{known}
use Rattle.sha_words.specs.Message.{bytes_of, sha2, sized}
use Rattle.sha_words.proofs.PaddingLaws.{length_bytes_of}
use Rattle.sha_2.specs.declared.Hash.{Hash}
use Rattle.sha_2.specs.Hash.{Fed}
use Rattle.sha_2.specs.Hash.{Digest}
use Rattle.sha_2.specs.Hash.{fresh, blank, started, fits, taken, fed, finished, fed_all, AllTaken, all_of}
use Rattle.sha_2.proofs.PartLaws.{fed_empty, fed_fed, fed_first, fed_past, taken_total}
use Rattle.sha_2.proofs.WholeLaws.{taken_tail, taken_value, taken_held, fresh_value, parts_taken, fed_parts}
use Rattle.lent_hash.specs.LentHash.{state_bytes, state_in, HashLeft, hash_left, hash_start_left, hash_feed_left, hash_finish_left, hash_feed_all_left, HashAllTaken}
use Rattle.lent_hash.proofs.LentHashLaws.{size_taken, Typed, typed_in, state_back, bytes_back}

-- ---- an empty part

-- 0 where the state fits, else 4, and no byte changes
pub empty_stays : (b : List ℕ) → Bytes b → length b ≡ hash_size → hash_feed_left b [] ≡ hash_left (cond (fits (state_in b)) 0 4) b
unfolding hash_feed_left
empty_stays b g h =
    sym (size_taken b _ _ h)
    ∙ ap (λ (f : Fed). hash_left f.number (cond (eqb f.number 0) (state_bytes f.hash) b)) (fed_empty (state_in b))
    ∙ by_test (fits (state_in b))
  where
    by_test : (t : Bool) → hash_left (cond t 0 4) (cond (eqb (cond t 0 4) 0) (state_bytes (state_in b)) b) ≡ hash_left (cond t 0 4) b
    by_test true = ap (hash_left 0) (bytes_back b g h)
    by_test false = refl

-- ---- the bytes of a state

length_state : (s : Hash) → Typed s → length (state_bytes s) ≡ hash_size
unfolding state_bytes
length_state s h =
    let a : List ℕ = s.kind ∷ [] in
    let t : List ℕ = bytes_of 8 s.total in
    let l : List ℕ = bytes_of 8 s.held in
    omega (
      arith,
      length-append a t,
      length-append (a ++ t) l,
      length-append (a ++ t ++ l) s.value,
      length-append (a ++ t ++ l ++ s.value) s.tail,
      length_bytes_of 8 s.total,
      length_bytes_of 8 s.held,
      h.value,
      h.tail,
    )

-- what is fed to them, and to what they hold
lent_fed : (s : Hash) (part : List ℕ) → Typed s → hash_feed_left (state_bytes s) part ≡ hash_left (fed s part).number (state_bytes (fed s part).hash)
unfolding hash_feed_left fed
lent_fed s part h =
    sym (size_taken (state_bytes s) _ _ (length_state s h))
    ∙ ap (λ (x : Hash). hash_left (fed x part).number (cond (eqb (fed x part).number 0) (state_bytes (fed x part).hash) (state_bytes s))) (state_back s h)
    ∙ by_test (fits s && leb (s.total + length part) hash_most)
  where
    by_test : (t : Bool)
        → hash_left (cond {A = Fed} t (record { number = 0; hash = taken s part }) (record { number = 4; hash = s })).number
        (cond (eqb (cond {A = Fed} t (record { number = 0; hash = taken s part }) (record { number = 4; hash = s })).number 0)
        (state_bytes (cond {A = Fed} t (record { number = 0; hash = taken s part }) (record { number = 4; hash = s })).hash) (state_bytes s))
        ≡ hash_left (cond {A = Fed} t (record { number = 0; hash = taken s part }) (record { number = 4; hash = s })).number
        (state_bytes (cond {A = Fed} t (record { number = 0; hash = taken s part }) (record { number = 4; hash = s })).hash)
    by_test true = refl
    by_test false = refl

-- ---- every state that the calls make goes into bytes and comes back

fed_typed : (s : Hash) (part : List ℕ) → Typed s → Typed (fed s part).hash
unfolding fed
fed_typed s part h = by_test (fits s && leb (s.total + length part) hash_most) refl
  where
    by_test : (t : Bool) → (fits s && leb (s.total + length part) hash_most) ≡ t
        → Typed (cond {A = Fed} t (record { number = 0; hash = taken s part }) (record { number = 4; hash = s })).hash
    by_test true e =
        let w = (and-eq-true_iff (fits s) (leb (s.total + length part) hash_most)).0 e in
        let n : s.total + length part ≤ hash_most = leb-true _ _ w.1 in
        record {
          total = omega (arith, taken_total s part, n);
          held = omega (arith, taken_held s part w.0);
          value = taken_value s part h.value;
          tail = taken_tail s part h.tail w.0;
        }
    by_test false e = h

fresh_typed : (kind : ℕ) → Typed (fresh kind)
unfolding fresh
fresh_typed kind = record { total = omega arith; held = omega arith; value = fresh_value kind; tail = refl }

started_typed : (kind : ℕ) → Typed (started kind).hash
unfolding started
started_typed kind = by_test (known kind)
  where
    by_test : (t : Bool) → Typed (cond {A = Fed} t (record { number = 0; hash = fresh kind }) (record { number = 4; hash = blank })).hash
    by_test true = fresh_typed kind
    by_test false = fresh_typed 0

-- ---- two parts

-- they are as the two joined, where these are not refused: the number and every byte
pub lent_two : (b a c : List ℕ) → Bytes b → length b ≡ hash_size → (hash_feed_left b (a ++ c)).number ≡ 0
    → hash_feed_left (hash_feed_left b a).bytes c ≡ hash_feed_left b (a ++ c)
lent_two b a c g h e =
    let s : Hash = state_in b in
    let t : Typed s = typed_in b g h in
    let q : state_bytes s ≡ b = bytes_back b g h in
    let n : (fed s (a ++ c)).number ≡ 0 = sym (ap (λ (f : HashLeft). f.number) (lent_fed s (a ++ c) t)) ∙ ap (λ (x : List ℕ). (hash_feed_left x (a ++ c)).number) q ∙ e in
    ap (λ (x : List ℕ). hash_feed_left (hash_feed_left x a).bytes c) (sym q)
    ∙ ap (λ (f : HashLeft). hash_feed_left f.bytes c) (lent_fed s a t)
    ∙ lent_fed (fed s a).hash c (fed_typed s a t)
    ∙ ap (λ (f : Fed). hash_left f.number (state_bytes f.hash)) (fed_fed s a c t.tail n)
    ∙ sym (lent_fed s (a ++ c) t)
    ∙ ap (λ (x : List ℕ). hash_feed_left x (a ++ c)) q

lent_number : (b part : List ℕ) → length b ≡ hash_size → (hash_feed_left b part).number ≡ (fed (state_in b) part).number
unfolding hash_feed_left
lent_number b part h = ap (λ (f : HashLeft). f.number) (sym (size_taken b _ _ h))

-- where the two joined are taken, the first is
pub lent_first : (b a c : List ℕ) → length b ≡ hash_size → (hash_feed_left b (a ++ c)).number ≡ 0 → (hash_feed_left b a).number ≡ 0
lent_first b a c h e = lent_number b a h ∙ fed_first (state_in b) a c (sym (lent_number b (a ++ c) h) ∙ e)

-- where they are too many and the first is taken, the second is refused and changes no byte
pub lent_past : (b a c : List ℕ) → Bytes b → length b ≡ hash_size → (hash_feed_left b a).number ≡ 0 → (hash_feed_left b (a ++ c)).number ≡ 4
    → hash_feed_left (hash_feed_left b a).bytes c ≡ hash_left 4 (hash_feed_left b a).bytes
lent_past b a c g h n e =
    let s : Hash = state_in b in
    let t : Typed s = typed_in b g h in
    let r : (hash_feed_left b a).bytes ≡ state_bytes (fed s a).hash =
    ap (λ (x : List ℕ). (hash_feed_left x a).bytes) (sym (bytes_back b g h)) ∙ ap (λ (f : HashLeft). f.bytes) (lent_fed s a t) in
    subst (λ (x : List ℕ). hash_feed_left x c ≡ hash_left 4 x) (sym r)
    (lent_fed (fed s a).hash c (fed_typed s a t)
    ∙ ap (λ (f : Fed). hash_left f.number (state_bytes f.hash))
    (fed_past s a c t.tail (sym (lent_number b a h) ∙ n) (sym (lent_number b (a ++ c) h) ∙ e)))

-- ---- any list of parts

lent_all : (s : Hash) (parts : List (List ℕ)) → Typed s → hash_feed_all_left (state_bytes s) parts ≡ state_bytes (fed_all s parts)
lent_all s [] h = refl
lent_all s (part ∷ parts) h =
    ap (λ (f : HashLeft). hash_feed_all_left f.bytes parts) (lent_fed s part h) ∙ lent_all (fed s part).hash parts (fed_typed s part h)

all_typed : (s : Hash) (parts : List (List ℕ)) → Typed s → Typed (fed_all s parts)
all_typed s [] h = h
all_typed s (part ∷ parts) h = all_typed (fed s part).hash parts (fed_typed s part h)

-- a message fed in any list of parts to a hash that was started in lent bytes, and finished, is the digest of the whole
pub lent_parts : (b : List ℕ) (kind : ℕ) (parts : List (List ℕ)) → length b ≡ hash_size → known kind ≡ true → length (all_of parts) ≤ hash_most
    → hash_finish_left (hash_feed_all_left (hash_start_left b kind).bytes parts) ≡ hash_left 0 (sized h_size (sha2 kind (all_of parts)))
unfolding hash_start_left hash_finish_left
lent_parts b kind parts l h m =
    let s : Hash = (started kind).hash in
    let f : Hash = fed_all s parts in
    let t : Typed f = all_typed s parts (started_typed kind) in
    ap (λ (x : HashLeft). hash_finish_left (hash_feed_all_left x.bytes parts)) (sym (size_taken b _ _ l))
    ∙ ap hash_finish_left (lent_all s parts (started_typed kind))
    ∙ sym (size_taken (state_bytes f) _ _ (length_state f t))
    ∙ ap (λ (x : Hash). hash_left (finished x).number (finished x).bytes) (state_back f t)
    ∙ ap (λ (d : Digest). hash_left d.number d.bytes) (fed_parts kind parts h m)

-- the start is answered 0
pub lent_started : (b : List ℕ) (kind : ℕ) → length b ≡ hash_size → known kind ≡ true → (hash_start_left b kind).number ≡ 0
unfolding hash_start_left started
lent_started b kind l h = ap (λ (f : HashLeft). f.number) (sym (size_taken b _ _ l)) ∙ rw h

all_lent : (s : Hash) (parts : List (List ℕ)) → Typed s → AllTaken s parts → HashAllTaken (state_bytes s) parts
all_lent s [] h k = tt
all_lent s (part ∷ parts) h k =
    let f = lent_fed s part h in (
      ap (λ (x : HashLeft). x.number) f ∙ k.0,
      subst (λ (x : HashLeft). HashAllTaken x.bytes parts) (sym f) (all_lent (fed s part).hash parts (fed_typed s part h) k.1),
    )

-- and so is each part
pub lent_taken : (b : List ℕ) (kind : ℕ) (parts : List (List ℕ)) → length b ≡ hash_size → known kind ≡ true → length (all_of parts) ≤ hash_most
    → HashAllTaken (hash_start_left b kind).bytes parts
unfolding hash_start_left
lent_taken b kind parts l h m =
    subst (λ (x : HashLeft). HashAllTaken x.bytes parts) (size_taken b _ _ l)
    (all_lent (started kind).hash parts (started_typed kind) (parts_taken kind parts h m))
