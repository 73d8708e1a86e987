-- `lent_steps::take_secret` meets its contract. Assumes nothing.
use borrow.Author.Rules.{rules}
use Prim.Native.Nat.{ℕ, ◌+◌, ◌≤◌}
use mathlib.Core.Path.{◌≡◌, refl, ap, ◌∙◌}
use mathlib.Core.List.{[], ◌∷◌}
use lib.ListN.{length, take}
use native.Mathlib.Omega.{arith}
use Rattle.limits.specs.Limits.{room_least}
use Rattle.buffers.specs.Bytes.{laid}
use Rattle.exchange.specs.Causes.{method_ok, k_of, h_of}
use Rattle.exchange.specs.Steps.{secret, k_record, fed_cause}
use Rattle.stored.specs.Stored.{decoded, by_size}
use Rattle.lent.proofs.LentLaws.{number_lent, call_refused, fault_read, call_accepted, Opened, opened}
use Rattle.stored.proofs.StoredLaws.{method_read}
use Rattle.lent_steps.proofs.SecretStepLaws.{SecretFits, secret_fits, Done, secret_done}
use Rattle.lent_steps.proofs.take_secret.Goals.{After-join_hash-arg-1, After-k_by_method-key, After-slice_known-6-1, After-step_number-n, Else-n-ne0}
use Rattle.lent_steps.proofs.take_secret.Goals as goal

-- where the step is accepted: what its number tells of the bytes
accepts : (j : Else-n-ne0) → let a = j.args in Opened a.ex.now a.room.now (secret a.cl a.x.now a.kem a.k_pq.now a.ks.now a.s.now)
unfolding fed_cause
accepts j =
    let a = j.args in
    opened a.ex.now a.room.now (secret a.cl a.x.now a.kem a.k_pq.now a.ks.now a.s.now) _ (number_lent a.ex.now a.room.now (secret a.cl a.x.now a.kem a.k_pq.now a.ks.now a.s.now) [] _ _ _ _ j.step_number-n.ensures.0 j.byte_in-role.ensures j.byte_in-method.ensures (j.number_told-fed.ensures ∙ j.secret_cause.ensures)) j.step_number-n.ensures.1 j.if-n-ne0.false

-- and of what is handed in
fit : (j : Else-n-ne0) → let a = j.args in SecretFits (decoded a.ex.now) a.room.now a.x.now a.k_pq.now
fit j =
    let a = j.args in
    secret_fits (decoded a.ex.now) a.room.now a.cl a.x.now a.kem a.k_pq.now a.ks.now a.s.now (accepts j).accepts

-- the method that was read is the exchange's
method-is : (j : Else-n-ne0) → j.byte_in-method.result ≡ (decoded j.args.ex.now).method
method-is j = method_read j.args.ex.now _ j.byte_in-method.ensures

accepts-After-k_by_method-key : (j : After-k_by_method-key) → let a = j.args in Opened a.ex.now a.room.now (secret a.cl a.x.now a.kem a.k_pq.now a.ks.now a.s.now)
unfolding fed_cause
accepts-After-k_by_method-key j =
    let a = j.args in
    opened a.ex.now a.room.now (secret a.cl a.x.now a.kem a.k_pq.now a.ks.now a.s.now) _ (number_lent a.ex.now a.room.now (secret a.cl a.x.now a.kem a.k_pq.now a.ks.now a.s.now) [] _ _ _ _ j.step_number-n.ensures.0 j.byte_in-role.ensures j.byte_in-method.ensures (j.number_told-fed.ensures ∙ j.secret_cause.ensures)) j.step_number-n.ensures.1 j.if-n-ne0.false

fit-After-k_by_method-key : (j : After-k_by_method-key) → let a = j.args in SecretFits (decoded a.ex.now) a.room.now a.x.now a.k_pq.now
fit-After-k_by_method-key j =
    let a = j.args in
    secret_fits (decoded a.ex.now) a.room.now a.cl a.x.now a.kem a.k_pq.now a.ks.now a.s.now (accepts-After-k_by_method-key j).accepts

method-is-After-k_by_method-key : (j : After-k_by_method-key) → j.byte_in-method.result ≡ (decoded j.args.ex.now).method
method-is-After-k_by_method-key j = method_read j.args.ex.now _ j.byte_in-method.ensures

-- and K: its length and its record
key : (c : After-k_by_method-key) →
    let a = c.args in
    let k = k_of (decoded a.ex.now).method a.x.now a.k_pq.now in
    (c.k_by_method-key.result.len ≡ length k) × (c.k_by_method-key.result.bytes ≡ k_record k)
key c =
    let a = c.args in
    let k = ap (λ (m : ℕ). k_of m a.x.now a.k_pq.now) (method-is-After-k_by_method-key c) in
    (c.k_by_method-key.ensures.0 ∙ ap length k, c.k_by_method-key.ensures.1 ∙ ap k_record k)

accepts-After-join_hash-arg-1 : (j : After-join_hash-arg-1) → let a = j.args in Opened a.ex.now a.room.now (secret a.cl a.x.now a.kem a.k_pq.now a.ks.now a.s.now)
unfolding fed_cause
accepts-After-join_hash-arg-1 j =
    let a = j.args in
    opened a.ex.now a.room.now (secret a.cl a.x.now a.kem a.k_pq.now a.ks.now a.s.now) _ (number_lent a.ex.now a.room.now (secret a.cl a.x.now a.kem a.k_pq.now a.ks.now a.s.now) [] _ _ _ _ j.step_number-n.ensures.0 j.byte_in-role.ensures j.byte_in-method.ensures (j.number_told-fed.ensures ∙ j.secret_cause.ensures)) j.step_number-n.ensures.1 j.if-n-ne0.false

fit-After-join_hash-arg-1 : (j : After-join_hash-arg-1) → let a = j.args in SecretFits (decoded a.ex.now) a.room.now a.x.now a.k_pq.now
fit-After-join_hash-arg-1 j =
    let a = j.args in
    secret_fits (decoded a.ex.now) a.room.now a.cl a.x.now a.kem a.k_pq.now a.ks.now a.s.now (accepts-After-join_hash-arg-1 j).accepts

method-is-After-join_hash-arg-1 : (j : After-join_hash-arg-1) → j.byte_in-method.result ≡ (decoded j.args.ex.now).method
method-is-After-join_hash-arg-1 j = method_read j.args.ex.now _ j.byte_in-method.ensures

key-After-join_hash-arg-1 : (c : After-join_hash-arg-1) →
    let a = c.args in
    let k = k_of (decoded a.ex.now).method a.x.now a.k_pq.now in
    (c.k_by_method-key.result.len ≡ length k) × (c.k_by_method-key.result.bytes ≡ k_record k)
key-After-join_hash-arg-1 c =
    let a = c.args in
    let k = ap (λ (m : ℕ). k_of m a.x.now a.k_pq.now) (method-is-After-join_hash-arg-1 c) in
    (c.k_by_method-key.ensures.0 ∙ ap length k, c.k_by_method-key.ensures.1 ∙ ap k_record k)

-- so all is as the step has it, and the count is small
done : (c : After-join_hash-arg-1) →
    let a = c.args in
    let n = c.join_k-end.result + c.k_by_method-key.result.len in
    Done a.ex.now a.room.now a.cl a.x.now a.kem a.k_pq.now a.ks.now a.s.now (accepts-After-join_hash-arg-1 c) n c.join_k-end.new.room c.join_k-end.new.ex × (n ≤ room_least)
done c =
    let a = c.args in
    let k = key-After-join_hash-arg-1 c in
    secret_done a.ex.now a.room.now a.cl a.x.now a.kem a.k_pq.now a.ks.now a.s.now (accepts-After-join_hash-arg-1 c) _ _ _ _ _ _ _ _ _ (record {
      role_is = c.byte_in-role.ensures;
      own = c.join_own.ensures.0;
      own_room = c.join_own.ensures.1;
      end_is = c.join_k-end.ensures.0;
      len_is = k.0;
      bytes_are = k.1;
      src_is = refl;
      left_is = c.join_k-end.ensures.1;
      ex_is = c.join_k-end.ensures.2;
    })

-- in a room as long as it was
same-room : (c : After-join_hash-arg-1) → length c.join_k-end.new.room ≡ length c.args.room.now
same-room c = search rules

pub returns-then-n-ne0 : goal.returns-then-n-ne0
unfolding fed_cause
returns-then-n-ne0 c =
    let a = c.args in
    let b = a.ex.now in
    let r = a.room.now in
    let q = secret a.cl a.x.now a.kem a.k_pq.now a.ks.now a.s.now in
    let m = number_lent b r q [] _ _ _ _ c.step_number-n.ensures.0 c.byte_in-role.ensures c.byte_in-method.ensures (c.number_told-fed.ensures ∙ c.secret_cause.ensures) in
    call_refused b r q ([]) _ m (fault_read _ b c.step_number-n.ensures.1) c.if-n-ne0.true _ _ _ c.refuse.ensures.0 c.refuse.ensures.1 c.refuse.ensures.2

pub k_by_method-key-requires : goal.k_by_method-key-requires
k_by_method-key-requires c =
    let k = ap (λ (m : ℕ). length (k_of m c.args.x.now c.args.k_pq.now)) (method-is c) in
    (ap method_ok (method-is c) ∙ (fit c).method_ok_is, (fit c).hash_fits, omega (arith, k, (fit c).k_fits_is))

pub overflow_add-end : goal.overflow_add-end
overflow_add-end c = let w = (done (goal.at.overflow_add-end c).After-join_hash-arg-1).1 in record { fits = omega arith }

pub join_hash-requires : goal.join_hash-requires
join_hash-requires c =
    let f = fit (goal.at.join_hash-requires c).Else-n-ne0 in
    let w = (done (goal.at.join_hash-requires c).After-join_hash-arg-1).1 in
    (ap method_ok (method-is (goal.at.join_hash-requires c).Else-n-ne0) ∙ f.method_ok_is, omega (arith, w, f.room_least_is, same-room (goal.at.join_hash-requires c).After-join_hash-arg-1), omega (arith, w))

pub returns : goal.returns
returns c =
    let a = c.args in
    let o = accepts (goal.at.returns c).Else-n-ne0 in
    let d = (done (goal.at.returns c).After-join_hash-arg-1).0 in
    let n = c.join_k-end.result + c.k_by_method-key.result.len in
    let r = c.join_k-end.new.room in
    let b = c.join_k-end.new.ex in
    let h = c.join_hash.ensures.0 ∙ ap (λ (m : ℕ). n ∷ h_of m (take n r)) (method-is (goal.at.returns c).Else-n-ne0) ∙ d.told in
    let x = d.ex_is _ (c.join_hash.ensures.1 ∙ ap (λ (m : ℕ). by_size b (laid b 90 (h_of m (take n r))) b) (method-is (goal.at.returns c).Else-n-ne0)) in
    call_accepted a.ex.now a.room.now (secret a.cl a.x.now a.kem a.k_pq.now a.ks.now a.s.now) [] o.fitting o.accepts _ _ _ _ h x d.room_is refl
