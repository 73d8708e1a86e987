-- Demand 2 for INIT and REPLY, once over the byte and the strings behind it. Assumes nothing.
use Prim.Native.Nat.{ℕ, ◌+◌, ◌≤◌, ◌<◌}
use mathlib.Core.Path.{◌≡◌, refl, sym, ap, ◌∙◌}
use mathlib.Core.List.{List, [], ◌∷◌, ◌++◌, append-nil}
use native.Mathlib.Omega.{arith}
use lib.ListN.{length, get_or, drop, drop_of_length-le}
use Rattle.limits.specs.Limits.{payload_most}
use Rattle.buffers.specs.Bytes.{Bytes}
use Rattle.wire.specs.Strings.{strings, walk}
use Rattle.wire.specs.Strings.{Walk}
use Rattle.wire.proofs.StringsLaws.{bodies, walk_strings, body_strings, strings_walked, body_walked}
use Rattle.messages.specs.Payload.{message_cause}
use Rattle.messages.specs.Messages.{init_bytes, reply_bytes, init_layout, reply_layout, field_of}
use Rattle.messages.specs.declared.Layout.{Layout}
use Rattle.messages.proofs.PayloadLaws.{fit_is, cause_none, cause_known}

-- a byte and k strings behind it
abbrev strings_behind : ℕ → ℕ → Layout
strings_behind byte k = record { most = payload_most; byte = byte; first = 1; count = k; behind = 0; boolean = 0 }

abbrev message : ℕ → List (List ℕ) → List ℕ
message byte bs = (byte ∷ []) ++ strings bs

-- ---- what is written is read back

module _ (byte : ℕ) (bs : List (List ℕ)) (h : length (message byte bs) ≤ payload_most) where
  stands : drop 1 (message byte bs) ≡ strings bs ++ []
  stands = sym (append-nil (strings bs))

  walked : walk (message byte bs) 1 (length bs) ≡ record { number = 0; place = 1 + length (strings bs) }
  walked = walk_strings (message byte bs) 1 bs [] (omega arith) stands

  message_complete : message_cause (strings_behind byte (length bs)) (message byte bs) ≡ 0
  message_complete =
      let n = ap (λ (w : Walk). w.number) walked in
      let q = ap (λ (w : Walk). w.place) walked in
      cause_none (strings_behind byte (length bs)) (message byte bs) (omega arith) h refl (fit_is (strings_behind byte (length bs)) (message byte bs) n (omega arith)) (omega arith)

  field_complete : (i : ℕ) → i < length bs → field_of (message byte bs) i ≡ get_or bs i []
  field_complete i k = body_strings (message byte bs) 1 bs [] i (omega arith) stands k

-- ---- what was read is written again

first_byte : (p : List ℕ) → 1 ≤ length p → get_or p 0 0 ∷ drop 1 p ≡ p
first_byte [] h = let w : ⊥ = omega arith in absurd w
first_byte (a ∷ p) h = refl

module _ (byte k : ℕ) (p : List ℕ) (y : Bytes p) (z : message_cause (strings_behind byte k) p ≡ 0) where
  message_sound : message byte (bodies p 1 k) ≡ p
  message_sound =
      let a = cause_known (strings_behind byte k) p z in
      let b = a.byte in
      let e : strings (bodies p 1 k) ≡ drop 1 p =
      sym (append-nil (strings (bodies p 1 k)))
      ∙ ap (λ (x : List ℕ). strings (bodies p 1 k) ++ x) (sym (drop_of_length-le p {i = (walk p 1 k).place} (omega (arith, a.ends))))
      ∙ strings_walked p 1 k y a.walked in
      (λ i. sym b i ∷ e i) ∙ first_byte p a.some

  field_sound : (i : ℕ) → i < k → get_or (bodies p 1 k) i [] ≡ field_of p i
  field_sound i h = body_walked p 1 k i (cause_known (strings_behind byte k) p z).walked h

-- ---- INIT

pub init_complete : (c : List ℕ) → length (init_bytes c) ≤ payload_most → (message_cause init_layout (init_bytes c) ≡ 0) × (field_of (init_bytes c) 0 ≡ c)
unfolding init_bytes
init_complete c h = (message_complete 30 (c ∷ []) h, field_complete 30 (c ∷ []) h 0 (omega arith))

pub init_sound : (p : List ℕ) → Bytes p → message_cause init_layout p ≡ 0 → init_bytes (field_of p 0) ≡ p
unfolding init_bytes
init_sound p y z = ap (λ (c : List ℕ). message 30 (c ∷ [])) (sym (field_sound 30 1 p y z 0 (omega arith))) ∙ message_sound 30 1 p y z

-- ---- REPLY

pub reply_complete : (ks s g : List ℕ) → length (reply_bytes ks s g) ≤ payload_most
    → (message_cause reply_layout (reply_bytes ks s g) ≡ 0) × (field_of (reply_bytes ks s g) 0 ≡ ks) × (field_of (reply_bytes ks s g) 1 ≡ s) × (field_of (reply_bytes ks s g) 2 ≡ g)
unfolding reply_bytes
reply_complete ks s g h =
    let bs : List (List ℕ) = ks ∷ s ∷ g ∷ [] in
    (message_complete 31 (ks ∷ s ∷ g ∷ []) h, field_complete 31 (ks ∷ s ∷ g ∷ []) h 0 (omega arith), field_complete 31 (ks ∷ s ∷ g ∷ []) h 1 (omega arith), field_complete 31 (ks ∷ s ∷ g ∷ []) h 2 (omega arith))

pub reply_sound : (p : List ℕ) → Bytes p → message_cause reply_layout p ≡ 0 → reply_bytes (field_of p 0) (field_of p 1) (field_of p 2) ≡ p
unfolding reply_bytes
reply_sound p y z =
    let f = field_sound 31 3 p y z in
    (λ i. message 31 (sym (f 0 (omega arith)) i ∷ sym (f 1 (omega arith)) i ∷ sym (f 2 (omega arith)) i ∷ [])) ∙ message_sound 31 3 p y z
