-- Laws of the hash input: its length by the recorded lengths, and how the room follows it. Assumes nothing.
use Prim.Native.Nat.{ℕ, ◌+◌, ◌<◌}
use mathlib.Core.Path.{◌≡◌, refl, sym, ap, ◌∙◌}
use mathlib.Core.List.{List, [], ◌++◌, append_assoc, append-nil}
use lib.ListN.{length, take, drop, length-append}
use lib.Seq.{take_at, drop_at}
use Rattle.buffers.specs.Bytes.{onto, over}
use Rattle.wire.specs.Strings.{bytes32, string}
use Rattle.transcript.specs.Fields.{field, field_length}
use Rattle.transcript.proofs.RoomLaws.{length_field, field_some, over_onto, inserted}
use Rattle.exchange.specs.Steps.{head_end, fields_end, standing_c, standing_ks, standing_s}
use Rattle.exchange.specs.Again.{versions_end}
use Rattle.exchange.specs.Book.{Fields, hash_input}
use Rattle.exchange.specs.ExchangeTold.{lengths_in}
use Rattle.exchange.specs.declared.Lengths.{Lengths}

abbrev pub fields_of : (vc vs ic is ks c s k : List ℕ) → Fields
fields_of vc vs ic is ks c s k = record { vc = vc; vs = vs; ic = ic; is = is; ks = ks; c = c; s = s; k = k }

-- both V and both I
abbrev pub head_in : (vc vs ic is : List ℕ) → List ℕ
head_in vc vs ic is = field vc ++ field vs ++ field ic ++ field is

pub head_length : (vc vs ic is : List ℕ) (l : Lengths) → l.vc ≡ length vc → l.vs ≡ length vs → l.ic ≡ length ic → l.is ≡ length is → head_end l ≡ length (head_in vc vs ic is)
head_length vc vs ic is l a b c d =
    (λ i. field_length (a i) + field_length (b i) + field_length (c i) + field_length (d i))
    ∙ sym (length-append (field vc ++ field vs ++ field ic) (field is)
    ∙ ap (λ (n : ℕ). n + length (field is)) (length-append (field vc ++ field vs) (field ic) ∙ ap (λ (n : ℕ). n + length (field ic)) (length-append (field vc) (field vs)))
    ∙ (λ i. length_field vc i + length_field vs i + length_field ic i + length_field is i))

module _ (vc vs ic is : List ℕ) where
  head : List ℕ
  head = head_in vc vs ic is

  -- the hash input with K missing, and whole
  hash_fields : (ks c s : List ℕ) → hash_input (fields_of vc vs ic is ks c s []) ≡ head ++ field ks ++ field c ++ field s
  unfolding hash_input head
  hash_fields ks c s = append-nil (head_in vc vs ic is ++ field ks ++ field c ++ field s)

  fields_length : (ks c s : List ℕ) → fields_end (lengths_in (fields_of vc vs ic is ks c s [])) ≡ length (head ++ field ks ++ field c ++ field s)
  unfolding head
  fields_length ks c s =
      (λ i. head_length vc vs ic is (lengths_in (fields_of vc vs ic is ks c s [])) refl refl refl refl i + field_length (length ks) + field_length (length c) + field_length (length s))
      ∙ (λ i. length (head_in vc vs ic is) + sym (length_field ks) i + sym (length_field c) i + sym (length_field s) i)
      ∙ sym (length-append (head_in vc vs ic is ++ field ks ++ field c) (field s)
      ∙ ap (λ (n : ℕ). n + length (field s)) (length-append (head_in vc vs ic is ++ field ks) (field c) ∙ ap (λ (n : ℕ). n + length (field c)) (length-append (head_in vc vs ic is) (field ks))))

  -- the hash input's length, K included
  pub hash_length : (ks c s k : List ℕ) → length (hash_input (fields_of vc vs ic is ks c s k)) ≡ fields_end (lengths_in (fields_of vc vs ic is ks c s k)) + length k
  unfolding hash_input head
  hash_length ks c s k = length-append (head_in vc vs ic is ++ field ks ++ field c ++ field s) k ∙ ap (λ (n : ℕ). n + length k) (sym (fields_length ks c s))

  module _ (room : List ℕ) where
    -- C joins both V and both I
    pub room_c : (c : List ℕ) → over (onto room (hash_input (fields_of vc vs ic is [] [] [] []))) (fields_end (lengths_in (fields_of vc vs ic is [] [] [] []))) (field c)
        ≡ onto room (hash_input (fields_of vc vs ic is [] c [] []))
    unfolding head field
    room_c c =
        let e : head ++ [] ++ [] ++ [] ≡ head = append-nil (head ++ [] ++ []) ∙ append-nil (head ++ []) ∙ append-nil head in
        let h = hash_fields [] [] [] in
        (λ i. over (onto room (h i)) (fields_length [] [] [] i) (field c))
        ∙ over_onto room (head ++ [] ++ [] ++ []) (field c)
        ∙ ap (onto room)
        (ap (λ (x : List ℕ). x ++ field c) e
        ∙ sym (hash_fields [] c [] ∙ append-nil (head ++ [] ++ field c) ∙ ap (λ (x : List ℕ). x ++ field c) (append-nil head)))

    -- K joins the other seven
    pub room_k : (ks c s k : List ℕ) → over (onto room (hash_input (fields_of vc vs ic is ks c s []))) (fields_end (lengths_in (fields_of vc vs ic is ks c s []))) k
        ≡ onto room (hash_input (fields_of vc vs ic is ks c s k))
    unfolding hash_input head
    room_k ks c s k =
        (λ i. over (onto room (hash_fields ks c s i)) (fields_length ks c s i) k)
        ∙ over_onto room (head_in vc vs ic is ++ field ks ++ field c ++ field s) k

    -- K_S goes in ahead of C, and what comes behind S with it
    around_c : (ks c b : List ℕ)
        → over (onto room (hash_input (fields_of vc vs ic is [] c [] []))) (head_end (lengths_in (fields_of vc vs ic is [] c [] [])))
        (field ks ++ standing_c (lengths_in (fields_of vc vs ic is [] c [] [])) (onto room (hash_input (fields_of vc vs ic is [] c [] []))) ++ b)
        ≡ onto room (head ++ (field ks ++ field c ++ b))
    unfolding field head
    around_c ks c b =
        let h : hash_input (fields_of vc vs ic is [] c [] []) ≡ head ++ field c =
        hash_fields [] c [] ∙ append-nil (head ++ [] ++ field c) ∙ ap (λ (x : List ℕ). x ++ field c) (append-nil head) in
        let n : head_end (lengths_in (fields_of vc vs ic is [] c [] [])) ≡ length head = head_is in
        let m : field_length (length c) ≡ length (field c) = sym (length_field c) in
        (λ i. over (onto room (h i)) (n i) (field ks ++ take (m i) (drop (n i) (onto room (h i))) ++ b))
        ∙ inserted room head (field c) (field ks) b
      where
        head_is : head_end (lengths_in (fields_of vc vs ic is [] c [] [])) ≡ length (head_in vc vs ic is)
        head_is = head_length vc vs ic is (lengths_in (fields_of vc vs ic is [] c [] [])) refl refl refl refl

    pub room_reply : (ks c s : List ℕ)
        → over (onto room (hash_input (fields_of vc vs ic is [] c [] []))) (head_end (lengths_in (fields_of vc vs ic is [] c [] [])))
        (field ks ++ standing_c (lengths_in (fields_of vc vs ic is [] c [] [])) (onto room (hash_input (fields_of vc vs ic is [] c [] []))) ++ field s)
        ≡ onto room (hash_input (fields_of vc vs ic is ks c s []))
    room_reply ks c s =
        around_c ks c (field s)
        ∙ ap (onto room) (sym (hash_fields ks c s ∙ append_assoc (head ++ field ks) (field c) (field s) ∙ append_assoc head (field ks) (field c ++ field s) ∙ ap (λ (x : List ℕ). head ++ x) (sym (append_assoc (field ks) (field c) (field s)))))

    pub room_secret : (ks c s k : List ℕ)
        → over (onto room (hash_input (fields_of vc vs ic is [] c [] []))) (head_end (lengths_in (fields_of vc vs ic is [] c [] [])))
        (field ks ++ standing_c (lengths_in (fields_of vc vs ic is [] c [] [])) (onto room (hash_input (fields_of vc vs ic is [] c [] []))) ++ field s ++ k)
        ≡ onto room (hash_input (fields_of vc vs ic is ks c s k))
    unfolding hash_input head
    room_secret ks c s k =
        ap (over (onto room (hash_input (fields_of vc vs ic is [] c [] []))) (head_end (lengths_in (fields_of vc vs ic is [] c [] []))))
        (append_assoc (field ks ++ standing_c (lengths_in (fields_of vc vs ic is [] c [] [])) (onto room (hash_input (fields_of vc vs ic is [] c [] [])))) (field s) k)
        ∙ around_c ks c (field s ++ k)
        ∙ ap (onto room)
        (ap (λ (x : List ℕ). head_in vc vs ic is ++ x) (sym (append_assoc (field ks ++ field c) (field s) k))
        ∙ sym (append_assoc (head_in vc vs ic is) (field ks ++ field c ++ field s) k)
        ∙ ap (λ (x : List ℕ). x ++ k) (sym (append_assoc (head_in vc vs ic is ++ field ks) (field c) (field s) ∙ append_assoc (head_in vc vs ic is) (field ks) (field c ++ field s) ∙ ap (λ (x : List ℕ). head_in vc vs ic is ++ x) (sym (append_assoc (field ks) (field c) (field s))))))

-- ---- K_S and S, as they stand in a room that begins with the hash input

middle : (l p q r : List ℕ) (n m : ℕ) → l ≡ p ++ (q ++ r) → length p ≡ n → length q ≡ m → take m (drop n l) ≡ q
middle l p q r n m e a b = ap (λ (x : List ℕ). take m (drop n x)) e ∙ ap (take m) (drop_at p (q ++ r) n a) ∙ take_at q r m b

module _ (vc vs ic is room ks c s k : List ℕ) where
  pub ks_stands : 0 < length ks → standing_ks (lengths_in (fields_of vc vs ic is ks c s k)) (onto room (hash_input (fields_of vc vs ic is ks c s k))) ≡ ks
  unfolding hash_input onto string
  ks_stands h =
      let end : List ℕ = drop (length (hash_input (fields_of vc vs ic is ks c s k))) room in
      let n = head_length vc vs ic is (lengths_in (fields_of vc vs ic is ks c s k)) refl refl refl refl in
      middle _ (head_in vc vs ic is ++ bytes32 (length ks)) ks (field c ++ (field s ++ (k ++ end))) _ _
      (ap (λ (x : List ℕ). (head_in vc vs ic is ++ x ++ field c ++ field s ++ k) ++ end) (field_some ks h) ∙ simp append_assoc)
      (length-append (head_in vc vs ic is) (bytes32 (length ks)) ∙ ap (λ (x : ℕ). x + 4) (sym n))
      refl

  pub s_stands : 0 < length s → standing_s (lengths_in (fields_of vc vs ic is ks c s k)) (onto room (hash_input (fields_of vc vs ic is ks c s k))) ≡ s
  unfolding hash_input onto string
  s_stands h =
      let end : List ℕ = drop (length (hash_input (fields_of vc vs ic is ks c s k))) room in
      let n = head_length vc vs ic is (lengths_in (fields_of vc vs ic is ks c s k)) refl refl refl refl in
      middle _ (head_in vc vs ic is ++ field ks ++ field c ++ bytes32 (length s)) s (k ++ end) _ _
      (ap (λ (x : List ℕ). (head_in vc vs ic is ++ field ks ++ field c ++ x ++ k) ++ end) (field_some s h) ∙ simp append_assoc)
      (length-append (head_in vc vs ic is ++ field ks ++ field c) (bytes32 (length s))
      ∙ ap (λ (x : ℕ). x + 4)
      (length-append (head_in vc vs ic is ++ field ks) (field c)
      ∙ ap (λ (x : ℕ). x + length (field c)) (length-append (head_in vc vs ic is) (field ks))
      ∙ (λ i. sym n i + length_field ks i + length_field c i)))
      refl

-- ---- to begin again

-- y laid behind x, where a room begins with x
over_front : (room x y : List ℕ) (n : ℕ) → n ≡ length x → take n room ≡ x → over room n y ≡ onto room (x ++ y)
unfolding over onto
over_front room x y n e t =
    let d : n + length y ≡ length (x ++ y) = ap (λ (k : ℕ). k + length y) e ∙ sym (length-append x y) in
    (λ i. t i ++ y ++ drop (d i) room)

-- a room begins with x where what was laid over its beginning does
front_onto : (room x y : List ℕ) → take (length x) (onto room (x ++ y)) ≡ x
unfolding onto
front_onto room x y = ap (take (length x)) (append_assoc x y (drop (length (x ++ y)) room)) ∙ take_at x (y ++ drop (length (x ++ y)) room) (length x) refl

module _ (vc vs ic is : List ℕ) where
  -- both V, and the rest
  parted : (ks c s k : List ℕ) → hash_input (fields_of vc vs ic is ks c s k) ≡ (field vc ++ field vs) ++ (field ic ++ field is ++ field ks ++ field c ++ field s ++ k)
  unfolding hash_input
  parted ks c s k = simp append_assoc

  pub hash_start : field vc ++ field vs ++ field ic ++ field is ≡ hash_input (fields_of vc vs ic is [] [] [] [])
  unfolding hash_input field
  hash_start = simp append-nil

-- both V stay as they stand, and the new I_C and I_S follow them
pub room_again : (room vc vs ic is ks c s k ic' is' : List ℕ)
    → over (onto room (hash_input (fields_of vc vs ic is ks c s k))) (versions_end (lengths_in (fields_of vc vs ic is ks c s k))) (field ic' ++ field is')
    ≡ onto (onto room (hash_input (fields_of vc vs ic is ks c s k))) (hash_input (fields_of vc vs ic' is' [] [] [] []))
room_again room vc vs ic is ks c s k ic' is' =
    let old : List ℕ = onto room (hash_input (fields_of vc vs ic is ks c s k)) in
    let n : field_length (length vc) + field_length (length vs) ≡ length (field vc ++ field vs) = sym (length-append (field vc) (field vs) ∙ (λ i. length_field vc i + length_field vs i)) in
    let t : take (field_length (length vc) + field_length (length vs)) old ≡ field vc ++ field vs =
    (λ i. take (n i) (onto room (parted vc vs ic is ks c s k i))) ∙ front_onto room (field vc ++ field vs) (field ic ++ field is ++ field ks ++ field c ++ field s ++ k) in
    over_front old (field vc ++ field vs) (field ic' ++ field is') (field_length (length vc) + field_length (length vs)) n t
    ∙ ap (onto old) (sym (append_assoc (field vc ++ field vs) (field ic') (field is')) ∙ hash_start vc vs ic' is')
