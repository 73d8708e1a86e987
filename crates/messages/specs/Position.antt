-- Where a payload breaks, and what that says of it: the fields ahead of the position are whole, and the one there is not. Assumes nothing.
use Rattle.std.specs.Prelude.{ℕ, zero, suc, ◌+◌, ◌-◌, ◌≤◌, ◌<◌, ◌≡◌, List, [], ◌∷◌, ◌++◌, cond, not, ◌||◌, length, replicate, ltb, eqb}
use Rattle.limits.specs.Limits.{string_most}
use Rattle.wire.specs.Strings.{string, walk}
use Rattle.messages.specs.Payload.{strings_end}
use Rattle.messages.specs.declared.Layout.{Layout}

-- ---- the position

-- where the first field that passes the end begins: the bytes ahead of the strings, a string at its length bytes, the boolean, the number
-- behind it; where none does, the place behind the last
unfoldable pub breaks_at : Layout → List ℕ → ℕ
breaks_at l p =
    cond (ltb (length p) l.first) 1
    (cond (not (eqb (walk p l.first l.count).number 0)) (walk p l.first l.count).place
    (cond (ltb (length p) (strings_end l p + l.boolean)) (strings_end l p)
    (cond (ltb (length p) (strings_end l p + l.behind)) (strings_end l p + l.boolean)
    (strings_end l p + l.behind))))

-- as an answer has it: of 12 where the field that passed the end begins, of 13 the first byte left over, of every other number 0
unfoldable pub position : ℕ → Layout → List ℕ → ℕ
position n l p = cond (eqb n 12 || eqb n 13) (breaks_at l p) 0

-- ---- what it says of a payload

-- a field of a message: so many bytes, or a string
pub data Item : Type 0 where
  bytes : ℕ → Item
  str : Item

-- a whole field, as it stands on the wire
pub data Whole : Item → List ℕ → Type 0 where
  whole_bytes : (b : List ℕ) → Whole (bytes (length b)) b
  whole_str : (b : List ℕ) → length b ≤ string_most → Whole str (string b)

-- whole fields, one behind another
pub data Wholes : List Item → List ℕ → Type 0 where
  no_field : Wholes [] []
  field_then : {f : Item} {fs : List Item} {w ws : List ℕ} → Whole f w → Wholes fs ws → Wholes (f ∷ fs) (w ++ ws)

-- the fields of a layout behind its message number: those of no bytes are none
abbrev pub fixed : ℕ → List Item
fixed zero = []
fixed (suc n) = bytes (suc n) ∷ []

abbrev pub items_of : Layout → List Item
items_of l = fixed (l.first - 1) ++ replicate l.count str ++ fixed l.boolean ++ fixed (l.behind - l.boolean)

-- cut at a position: up to it the fields are whole, and the next one is not, whatever it might be
pub record CutAt (l : Layout) (p : List ℕ) (at : ℕ) : Type 0 where
  pub ahead : List Item
  pub cut : Item
  pub after : List Item
  pub fields_are : ahead ++ cut ∷ after ≡ items_of l
  pub written : List ℕ
  pub rest : List ℕ
  pub payload_is : p ≡ (l.byte ∷ written) ++ rest
  pub position_is : at ≡ 1 + length written
  pub are_whole : Wholes ahead written
  pub is_not : (w r : List ℕ) → Whole cut w → ¬ (rest ≡ w ++ r)

-- bytes left over from a position on: up to it all fields are whole
pub record LeftOverAt (l : Layout) (p : List ℕ) (at : ℕ) : Type 0 where
  pub written : List ℕ
  pub rest : List ℕ
  pub payload_is : p ≡ (l.byte ∷ written) ++ rest
  pub position_is : at ≡ 1 + length written
  pub are_whole : Wholes (items_of l) written
  pub some : 0 < length rest

-- a layout whose strings stand behind the message number, and whose boolean is among the bytes behind them
pub record Ordered (l : Layout) : Type 0 where
  pub behind_number : 1 ≤ l.first
  pub boolean_behind : l.boolean ≤ l.behind

-- what an answer tells by its number and its position
pub record PositionTold (l : Layout) (p : List ℕ) (n at : ℕ) : Type 0 where
  pub of_12 : n ≡ 12 → CutAt l p at
  pub of_13 : n ≡ 13 → LeftOverAt l p at
  pub of_others : ¬ (n ≡ 12) → ¬ (n ≡ 13) → at ≡ 0
