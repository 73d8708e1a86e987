-- A message that is fed in any list of parts and finished is the digest of the whole by FIPS 180-4. Assumes nothing.
use Prim.Native.Nat.{ℕ, zero, suc, ◌+◌, ◌-◌, ◌*◌, ◌%◌, ◌≤◌, ◌<◌}
use mathlib.Core.Path.{◌≡◌, refl, sym, ap, subst, ◌∙◌}
use mathlib.Core.List.{List, [], ◌∷◌, ◌++◌}
use mathlib.Core.Bool.{Bool, true, false, cond, ◌&&◌}
use native.Mathlib.Omega.{arith}
use native.Mathlib.Nat.{zero-mod, mod-lt}
use lib.Dec.{leb, eqb}
use lib.ListN.{length, take, drop, length-append}
use lib.Seq.{take-append-le}
use borrow.Author.Tests.{le-leb, eq-eqb}
use Rattle.limits.specs.Limits.{hash_most, block_most, h_size}
use Rattle.buffers.specs.Bytes.{zeros}
use Rattle.sha_words.specs.Words.{Width}
use Rattle.sha_words.specs.Constants.{bits32, bits64, H256, H384, H512, known, width_of, initial}
use Rattle.sha_words.specs.Blocks.{after}
use Rattle.sha_words.specs.Message.{word_bytes, words_at, padding, padded, behind, sha2, sized, value_of, value_after}
use Rattle.sha_words.proofs.SizedLaws.{length_sized, take_sized}
use Rattle.sha_words.proofs.ChainLaws.{length_behind}
use Rattle.sha_words.proofs.PaddingLaws.{Sizes, sizes_of_lem}
use Rattle.sha_words.proofs.ValueLaws.{length_word_bytes, value_after_short, value_after_whole, value_after_parts}
use Rattle.sha_words.proofs.DigestLaws.{length_after, padded_least, kind_most, length_value_of, length_value_after}
use Rattle.sha_2.specs.declared.Hash.{Hash}
use Rattle.sha_2.specs.Hash.{Fed}
use Rattle.sha_2.specs.Hash.{Digest}
use Rattle.sha_2.specs.Hash.{initial_value, fresh, started, fits, grown, waiting, taken, last_value, finished, digested, fed_all, AllTaken, all_of}
use Rattle.sha_2.proofs.StateLaws.{fitting, initial_known, fed_taken, finished_fit}
use Rattle.sha_2.proofs.PartLaws.{taken_taken, taken_fits, taken_total}

-- ---- a fresh state

fresh_fits : (kind : ℕ) → known kind ≡ true → fits (fresh kind) ≡ true
unfolding fits fresh
fresh_fits kind h = rw h (eq-eqb 0 (0 % (width_of kind).block) (sym (zero-mod (width_of kind).block)))

fresh_tail : (kind : ℕ) → length (fresh kind).tail ≡ block_most
unfolding fresh
fresh_tail kind = refl

fresh_total : (kind : ℕ) → (fresh kind).total ≡ 0
unfolding fresh
fresh_total kind = refl

-- its words are the initial hash value's
read_initial : (kind : ℕ) → known kind ≡ true → words_at (value_of (width_of kind) (initial kind)) 0 (width_of kind).bytes 8 ≡ initial kind
unfolding value_of sized H256 H384 H512
read_initial kind h = by_first (eqb kind 32)
  where
    by_second : (t : Bool) → words_at (value_of bits64 (cond t H384 H512)) 0 8 8 ≡ cond t H384 H512
    by_second true = refl
    by_second false = refl

    by_first : (t : Bool)
        → words_at (value_of (cond t bits32 bits64) (cond t H256 (cond (eqb kind 48) H384 H512))) 0 (cond t bits32 bits64).bytes 8
        ≡ cond t H256 (cond (eqb kind 48) H384 H512)
    by_first true = refl
    by_first false = by_second (eqb kind 48)

-- the hash value of a message, padded
value_padded : (kind : ℕ) (m : List ℕ) → known kind ≡ true
    → value_after (width_of kind) (initial_value kind) (padded (width_of kind) m) ≡ value_of (width_of kind) (after (width_of kind) (initial kind) (padded (width_of kind) m))
value_padded kind m h =
    let p : Width = width_of kind in
    value_after_whole p (initial_value kind) (padded p m) (padded_least p m (sizes_of_lem kind).positive)
    ∙ ap (λ (t : List ℕ). value_of p (after p t (padded p m))) (ap (λ (v : List ℕ). words_at v 0 p.bytes 8) (initial_known kind h) ∙ read_initial kind h)

-- ---- a state that was fed m

behind_none : (p : Width) → behind p [] ≡ []
unfolding behind
behind_none p = by_length (0 - 0 % p.block)
  where
    by_length : (n : ℕ) → ◌≡◌ {A = List ℕ} (drop n []) []
    by_length zero = refl
    by_length (suc n) = refl

record Holds (kind : ℕ) (m : List ℕ) (s : Hash) : Type 0 where
  pub kind_is : s.kind ≡ kind
  pub total : s.total ≡ length m
  pub waits : take s.held s.tail ≡ behind (width_of kind) m
  pub value : s.value ≡ value_after (width_of kind) (initial_value kind) m

holds : (kind : ℕ) (m : List ℕ) → Holds kind m (taken (fresh kind) m)
unfolding fresh grown
holds kind [] =
    record {
      kind_is = refl;
      total = refl;
      waits = sym (behind_none (width_of kind));
      value = sym (value_after_short (width_of kind) (initial_value kind) [] (sizes_of_lem kind).positive);
    }
holds kind (x ∷ m) =
    record {
      kind_is = refl;
      total = omega arith;
      waits = take_sized block_most (length (behind (width_of kind) (x ∷ m))) (behind (width_of kind) (x ∷ m)) refl;
      value = refl;
    }

-- its last hash value is that of m padded
last_whole : (kind : ℕ) (m : List ℕ) (s : Hash) → known kind ≡ true → Holds kind m s
    → last_value s ≡ value_of (width_of kind) (after (width_of kind) (initial kind) (padded (width_of kind) m))
last_whole kind m s h g =
    let p : Width = width_of kind in
    let sizes : Sizes p = sizes_of_lem kind in
    rw (g.kind_is, g.total, g.waits, g.value)
    (value_after_parts p (initial_value kind) m (padding p (length m)) sizes ∙ value_padded kind m h)

-- and its first bytes are the digest
take_value : (kind : ℕ) (m : List ℕ) → known kind ≡ true
    → take kind (value_of (width_of kind) (after (width_of kind) (initial kind) (padded (width_of kind) m))) ≡ sha2 kind m
unfolding sha2 value_of sized
take_value kind m h =
    let p : Width = width_of kind in
    let H : List ℕ = after p (initial kind) (padded p m) in
    let pos : 0 < p.block = (sizes_of_lem kind).positive in
    let l : length (word_bytes p.bytes H) ≡ p.bytes * 8 =
    length_word_bytes p.bytes H ∙ ap (λ (n : ℕ). p.bytes * n) (length_after p (initial kind) (padded p m) pos (padded_least p m pos)) in
    take-append-le kind (word_bytes p.bytes H) _ (omega (arith, l, kind_most kind h))

pub finished_whole : (kind : ℕ) (m : List ℕ) → known kind ≡ true → length m ≤ hash_most
    → finished (taken (fresh kind) m) ≡ record { number = 0; bytes = sized h_size (sha2 kind m) }
finished_whole kind m h l =
    let s : Hash = taken (fresh kind) m in
    let f : fits s ≡ true = taken_fits (fresh kind) m (fresh_tail kind) (fresh_fits kind h) (omega (arith, fresh_total kind)) in
    finished_fit s f
    ∙ ap (λ (b : List ℕ). record { number = 0; bytes = sized h_size b })
    (ap (λ (k : ℕ). take k (last_value s)) (holds kind m).kind_is
    ∙ ap (take kind) (last_whole kind m s h (holds kind m)) ∙ take_value kind m h)

-- ---- any list of parts

pub taken_tail : (s : Hash) (a : List ℕ) → length s.tail ≡ block_most → fits s ≡ true → length (taken s a).tail ≡ block_most
unfolding grown
taken_tail s [] l h = l
taken_tail s (x ∷ a) l h =
    let p : Width = width_of s.kind in
    let m : List ℕ = waiting s (x ∷ a) in
    let b : length (behind p m) < p.block = rw (length_behind p m) (mod-lt (length m) (sizes_of_lem s.kind).positive) in
    length_sized block_most (behind p m) (omega (arith, (sizes_of_lem s.kind).most))

pub taken_held : (s : Hash) (a : List ℕ) → fits s ≡ true → (taken s a).held < block_most
unfolding grown
taken_held s [] h = (fitting s h).most
taken_held s (x ∷ a) h =
    let p : Width = width_of s.kind in
    let m : List ℕ = waiting s (x ∷ a) in
    omega (arith, length_behind p m, mod-lt (length m) (sizes_of_lem s.kind).positive, (sizes_of_lem s.kind).most)

pub taken_value : (s : Hash) (a : List ℕ) → length s.value ≡ h_size → length (taken s a).value ≡ h_size
unfolding grown
taken_value s [] l = l
taken_value s (x ∷ a) l = length_value_after (width_of s.kind) s.value (waiting s (x ∷ a)) (sizes_of_lem s.kind) l

pub fresh_value : (kind : ℕ) → length (initial_value kind) ≡ h_size
unfolding initial_value H256 H384 H512
fresh_value kind = by_test (known kind)
  where
    by_kind_lem : (t u : Bool) → length (cond t H256 (cond u H384 H512)) ≡ 8
    by_kind_lem true u = refl
    by_kind_lem false true = refl
    by_kind_lem false false = refl

    by_test : (t : Bool) → length (cond t (value_of (width_of kind) (initial kind)) (zeros h_size)) ≡ h_size
    by_test true = length_value_of (width_of kind) (initial kind) (sizes_of_lem kind) (by_kind_lem (eqb kind 32) (eqb kind 48))
    by_test false = refl

fed_all_taken : (s : Hash) (parts : List (List ℕ)) → length s.tail ≡ block_most → fits s ≡ true → s.total + length (all_of parts) ≤ hash_most
    → fed_all s parts ≡ taken s (all_of parts)
fed_all_taken s [] l h k = refl
fed_all_taken s (part ∷ parts) l h k =
    let n = length-append part (all_of parts) in
    let a : s.total + length part ≤ hash_most = omega arith in
    ap (λ (f : Fed). fed_all f.hash parts) (sym (fed_taken s part h a))
    ∙ fed_all_taken (taken s part) parts (taken_tail s part l h) (taken_fits s part l h a) (omega (arith, taken_total s part))
    ∙ taken_taken s part (all_of parts)

-- each part is taken
all_taken : (s : Hash) (parts : List (List ℕ)) → length s.tail ≡ block_most → fits s ≡ true → s.total + length (all_of parts) ≤ hash_most
    → AllTaken s parts
all_taken s [] l h k = tt
all_taken s (part ∷ parts) l h k =
    let n = length-append part (all_of parts) in
    let a : s.total + length part ≤ hash_most = omega arith in
    let f = fed_taken s part h a in
    (sym (ap (λ (x : Fed). x.number) f), subst (λ (x : Fed). AllTaken x.hash parts) f (all_taken (taken s part) parts (taken_tail s part l h) (taken_fits s part l h a) (omega (arith, taken_total s part))))

pub parts_taken : (kind : ℕ) (parts : List (List ℕ)) → known kind ≡ true → length (all_of parts) ≤ hash_most → AllTaken (started kind).hash parts
unfolding started
parts_taken kind parts h l = rw h (all_taken (fresh kind) parts (fresh_tail kind) (fresh_fits kind h) (omega (arith, fresh_total kind)))

-- a message fed in any list of parts and finished is the digest of the whole
pub fed_parts : (kind : ℕ) (parts : List (List ℕ)) → known kind ≡ true → length (all_of parts) ≤ hash_most
    → finished (fed_all (started kind).hash parts) ≡ record { number = 0; bytes = sized h_size (sha2 kind (all_of parts)) }
unfolding started
fed_parts kind parts h l =
    rw h
    (ap finished (fed_all_taken (fresh kind) parts (fresh_tail kind) (fresh_fits kind h) (omega (arith, fresh_total kind)))
    ∙ finished_whole kind (all_of parts) h l)

-- ---- a whole message

-- what a caller with the premises in hand is answered
pub digested_known : (kind : ℕ) (m : List ℕ) → known kind ≡ true → length m ≤ hash_most
    → digested kind m ≡ record { number = 0; bytes = sized h_size (sha2 kind m) }
unfolding digested
digested_known kind m t h = rw (t, le-leb (length m) hash_most h)

pub digested_refused : (kind : ℕ) (a b : List ℕ) → (known kind && leb (length a + length b) hash_most) ≡ false
    → ◌≡◌ {A = Digest} (record { number = 4; bytes = zeros h_size }) (digested kind (a ++ b))
unfolding digested
digested_refused kind a b h = rw (length-append a b, h)

-- the first bytes of the last hash value, from the initial one on
pub digested_of : (kind : ℕ) (m v : List ℕ) → known kind ≡ true → length m ≤ hash_most → v ≡ value_after (width_of kind) (initial_value kind) (padded (width_of kind) m)
    → ◌≡◌ {A = Digest} (record { number = 0; bytes = sized h_size (take kind v) }) (digested kind m)
digested_of kind m v h l e =
    ap (λ (t : List ℕ). record { number = 0; bytes = sized h_size t }) (ap (take kind) (e ∙ value_padded kind m h) ∙ take_value kind m h)
    ∙ sym (digested_known kind m h l)
