-- Laws of the position: one for each answer. Assumes nothing.
use Prim.Native.Nat.{ℕ, ◌+◌, ◌≤◌, ◌<◌}
use mathlib.Core.Path.{◌≡◌}
use mathlib.Core.List.{List}
use mathlib.Core.Bool.{true, false, ◌||◌}
use lib.ListN.{length}
use lib.Dec.{eqb}
use borrow.Author.Tests.{lt-ltb, le-ltb, eq-eqb, ne_eqb}
use Rattle.wire.specs.Strings.{walk}
use Rattle.messages.specs.Payload.{strings_end}
use Rattle.messages.specs.Position.{breaks_at, position}
use Rattle.messages.specs.declared.Layout.{Layout}

module _ (l : Layout) (p : List ℕ) where
  -- ---- breaks_at

  -- the bytes ahead of the strings pass the end
  pub breaks_ahead : length p < l.first → 1 ≡ breaks_at l p
  unfolding breaks_at
  breaks_ahead h = rw (lt-ltb (length p) l.first h)

  module _ (a : l.first ≤ length p) where
    -- a string does
    pub breaks_string : ¬ ((walk p l.first l.count).number ≡ 0) → (walk p l.first l.count).place ≡ breaks_at l p
    unfolding breaks_at
    breaks_string h = rw (le-ltb (length p) l.first a, ne_eqb (walk p l.first l.count).number 0 h)

    module _ (w : (walk p l.first l.count).number ≡ 0) where
      -- the boolean does
      pub breaks_boolean : length p < strings_end l p + l.boolean → strings_end l p ≡ breaks_at l p
      unfolding breaks_at
      breaks_boolean h = rw (le-ltb (length p) l.first a, eq-eqb (walk p l.first l.count).number 0 w, lt-ltb (length p) (strings_end l p + l.boolean) h)

      module _ (b : strings_end l p + l.boolean ≤ length p) where
        -- the number does
        pub breaks_number : length p < strings_end l p + l.behind → strings_end l p + l.boolean ≡ breaks_at l p
        unfolding breaks_at
        breaks_number h =
            rw (le-ltb (length p) l.first a, eq-eqb (walk p l.first l.count).number 0 w, le-ltb (length p) (strings_end l p + l.boolean) b, lt-ltb (length p) (strings_end l p + l.behind) h)

        -- nothing does
        pub breaks_none : strings_end l p + l.behind ≤ length p → strings_end l p + l.behind ≡ breaks_at l p
        unfolding breaks_at
        breaks_none h =
            rw (le-ltb (length p) l.first a, eq-eqb (walk p l.first l.count).number 0 w, le-ltb (length p) (strings_end l p + l.boolean) b, le-ltb (length p) (strings_end l p + l.behind) h)

  -- ---- position

  pub position_some : (n : ℕ) → eqb n 12 || eqb n 13 ≡ true → breaks_at l p ≡ position n l p
  unfolding position
  position_some n h = rw h

  pub position_none : (n : ℕ) → eqb n 12 || eqb n 13 ≡ false → 0 ≡ position n l p
  unfolding position
  position_none n h = rw h
