-- The numbers that a call can be given. Assumes nothing.
use Prim.Native.Nat.{ℕ}
use mathlib.Core.Path.{◌≡◌}
use mathlib.Core.List.{List}
use mathlib.Core.Bool.{Bool, true, false, cond}
use lib.Dec.{eqb}
use Rattle.wire.specs.Causes.{cause_if, cause_unless, or_else}
use Rattle.messages.specs.Payload.{message_cause}
use Rattle.messages.specs.Messages.{init_layout, reply_layout}
use Rattle.messages.specs.declared.Layout.{Layout}
use Rattle.exchange.specs.Causes.{own_c_cause, init_cause, reply_cause, secret_cause, sign_cause, verdict_cause}
use Rattle.exchange.specs.Steps.{Call, own_c, init, reply, secret, sign, verdict, fed_cause}

-- ---- what holds of every number in a chain of causes holds of the first

pub unless_keeps : (P : ℕ → Bool) (t : Bool) (n x : ℕ) → P n ≡ true → P x ≡ true → P (cause_unless t n x) ≡ true
unfolding cause_unless
unless_keeps P true n x a b = b
unless_keeps P false n x a b = a

pub if_keeps : (P : ℕ → Bool) (t : Bool) (n x : ℕ) → P n ≡ true → P x ≡ true → P (cause_if t n x) ≡ true
unfolding cause_if
if_keeps P true n x a b = a
if_keeps P false n x a b = b

else_keeps : (P : ℕ → Bool) (a b : ℕ) → P a ≡ true → P b ≡ true → P (or_else a b) ≡ true
unfolding or_else
else_keeps P a b p q = by_test (eqb a 0)
  where
    by_test : (t : Bool) → P (cond t b a) ≡ true
    by_test true = q
    by_test false = p

-- a claim that holds of 0 and of each number that what a call is fed can cause
pub record OfEach (P : ℕ → Bool) : Type 0 where
  pub of0 : P 0 ≡ true
  pub of4 : P 4 ≡ true
  pub of5 : P 5 ≡ true
  pub of10 : P 10 ≡ true
  pub of11 : P 11 ≡ true
  pub of12 : P 12 ≡ true
  pub of13 : P 13 ≡ true
  pub of14 : P 14 ≡ true
  pub of15 : P 15 ≡ true
  pub of16 : P 16 ≡ true
  pub of17 : P 17 ≡ true
  pub of18 : P 18 ≡ true

message_keeps : (P : ℕ → Bool) → OfEach P → (l : Layout) (p : List ℕ) → P (message_cause l p) ≡ true
unfolding message_cause
message_keeps P o l p =
    unless_keeps P _ 10 _ o.of10 (unless_keeps P _ 11 _ o.of11 (unless_keeps P _ 12 _ o.of12 (if_keeps P _ 13 0 o.of13 o.of0)))

-- holds of what the call is fed
pub fed_keeps : (P : ℕ → Bool) → OfEach P → (role m : ℕ) (q : Call) → P (fed_cause role m q) ≡ true
unfolding fed_cause own_c_cause init_cause reply_cause secret_cause sign_cause verdict_cause
fed_keeps P o role m (own_c c out) = unless_keeps P _ 4 _ o.of4 (if_keeps P _ 5 0 o.of5 o.of0)
fed_keeps P o role m (init p) = else_keeps P _ _ (message_keeps P o init_layout p) (unless_keeps P _ 14 _ o.of14 (unless_keeps P _ 15 0 o.of15 o.of0))
fed_keeps P o role m (reply p) = else_keeps P _ _ (message_keeps P o reply_layout p) (unless_keeps P _ 14 _ o.of14 (unless_keeps P _ 15 0 o.of15 o.of0))
fed_keeps P o role m (secret cl x kem k_pq ks s) = unless_keeps P _ 4 _ o.of4 (if_keeps P _ 16 _ o.of16 (if_keeps P _ 17 0 o.of17 o.of0))
fed_keeps P o role m (sign g out k_out) = unless_keeps P _ 4 _ o.of4 (if_keeps P _ 5 0 o.of5 o.of0)
fed_keeps P o role m (verdict u v k_out) = if_keeps P _ 5 _ o.of5 (unless_keeps P _ 18 0 o.of18 o.of0)
