-- Laws of a hash's state: when it fits, and what feeding and finishing answer then. Assumes nothing.
use Prim.Native.Nat.{ℕ, ◌+◌, ◌%◌, ◌≤◌, ◌<◌}
use mathlib.Core.Path.{◌≡◌, refl, ap, ◌∙◌}
use mathlib.Core.List.{List, [], ◌∷◌}
use mathlib.Core.Bool.{true, false, ◌&&◌, and-eq-true_iff}
use native.Mathlib.Omega.{arith}
use native.Mathlib.Nat.{mod-lt}
use lib.Dec.{leb, eqb}
use lib.ListN.{length, take}
use borrow.Author.Tests.{le-leb, lt-leb, leb-true, eqb-true}
use Rattle.limits.specs.Limits.{hash_most, block_most, h_size}
use Rattle.limits.specs.declared.Refusal.{Refusal}
use Rattle.std.specs.Prelude.{Result, Ok, Err}
use Rattle.std.specs.Result.{result_unwrap_or}
use Rattle.buffers.specs.Bytes.{zeros}
use Rattle.sha_words.specs.Words.{Width}
use Rattle.sha_words.specs.Constants.{known, width_of, initial}
use Rattle.sha_words.specs.Message.{sized, value_of}
use Rattle.sha_words.proofs.PaddingLaws.{sizes_of_lem}
use Rattle.sha_2.specs.declared.Hash.{Hash}
use Rattle.sha_2.specs.Hash.{Fed}
use Rattle.sha_2.specs.Hash.{Digest}
use Rattle.sha_2.specs.Hash.{fresh, blank, initial_value, started, fits, grown, taken, fed, last_value, finished, digest_of}

-- ---- fits

-- what it tells
pub record Fitting (s : Hash) : Type 0 where
  pub kind : known s.kind ≡ true
  pub total : s.total ≤ hash_most
  pub held : s.held ≡ s.total % (width_of s.kind).block
  pub less : s.held < (width_of s.kind).block
  pub most : s.held < block_most

pub fitting : (s : Hash) → fits s ≡ true → Fitting s
unfolding fits
fitting s h =
    let p : Width = width_of s.kind in
    let b = (and-eq-true_iff (known s.kind && leb s.total hash_most) (eqb s.held (s.total % p.block))).0 h in
    let d = (and-eq-true_iff (known s.kind) (leb s.total hash_most)).0 b.0 in
    let e : s.held ≡ s.total % p.block = eqb-true _ _ b.1 in
    let l : s.total % p.block < p.block = mod-lt s.total (sizes_of_lem s.kind).positive in
    let m : p.block ≤ block_most = (sizes_of_lem s.kind).most in
    record { kind = d.0; total = leb-true s.total hash_most d.1; held = e; less = rw e l; most = omega arith }

-- ---- started

pub initial_known : (kind : ℕ) → known kind ≡ true → initial_value kind ≡ value_of (width_of kind) (initial kind)
unfolding initial_value
initial_known kind h = rw h

-- what the code makes
abbrev made : ℕ → List ℕ → Hash
made kind v = record { kind = kind; total = 0; held = 0; value = v; tail = zeros block_most }

pub start_unknown : (kind : ℕ) → known kind ≡ false → ◌≡◌ {A = Fed} (record { number = 4; hash = blank }) (started kind)
unfolding started
start_unknown kind h = rw h

pub start_known : (kind : ℕ) (v : List ℕ) (s : Hash) → known kind ≡ true → v ≡ initial_value kind → s ≡ made kind v
    → ◌≡◌ {A = Fed} (record { number = 0; hash = s }) (started kind)
unfolding started fresh
start_known kind v s h ev es = ap (λ (x : Hash). record { number = 0; hash = x }) (es ∙ ap (made kind) ev) ∙ rw h

-- ---- fed

pub fed_unfit : (s : Hash) (part : List ℕ) → fits s ≡ false → ◌≡◌ {A = Fed} (record { number = 4; hash = s }) (fed s part)
unfolding fed
fed_unfit s part h = rw h

pub fed_long : (s : Hash) (part : List ℕ) → fits s ≡ true → hash_most < s.total + length part → ◌≡◌ {A = Fed} (record { number = 4; hash = s }) (fed s part)
unfolding fed
fed_long s part h l = rw (h, lt-leb (s.total + length part) hash_most l)

pub fed_taken : (s : Hash) (part : List ℕ) → fits s ≡ true → s.total + length part ≤ hash_most
    → ◌≡◌ {A = Fed} (record { number = 0; hash = taken s part }) (fed s part)
unfolding fed
fed_taken s part h l = rw (h, le-leb (s.total + length part) hash_most l)

pub taken_none : (s : Hash) (part : List ℕ) → length part ≡ 0 → s ≡ taken s part
taken_none s [] h = refl
taken_none s (b ∷ part) h = absurd (omega arith)

pub taken_some : (s : Hash) (part : List ℕ) → 0 < length part → grown s part ≡ taken s part
taken_some s [] h = absurd (omega arith)
taken_some s (b ∷ part) h = refl

-- ---- finished

pub finished_unfit : (s : Hash) → fits s ≡ false → ◌≡◌ {A = Digest} (record { number = 4; bytes = zeros h_size }) (finished s)
unfolding finished
finished_unfit s h = rw h

pub finished_fit : (s : Hash) → fits s ≡ true → finished s ≡ record { number = 0; bytes = sized h_size (take s.kind (last_value s)) }
unfolding finished
finished_fit s h = rw h

-- ---- what is answered

-- a caller who has zeros for a refusal has the record's bytes
pub digest_or_zeros : (r : Result (List ℕ) Refusal) → result_unwrap_or r (zeros h_size) ≡ (digest_of r).bytes
digest_or_zeros (Ok b) = refl
digest_or_zeros (Err e) = refl
