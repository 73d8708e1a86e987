-- An exchange by value as bytes of its own. Assumes nothing.
use Rattle.std.specs.Prelude.{ℕ, List, Option, None, Some, Bool, cond, ◌&&◌, leb}
use Rattle.limits.specs.Limits.{length_most, count_most}
use Rattle.exchange.specs.declared.Lengths.{Lengths}
use Rattle.exchange.specs.declared.Exchange.{Exchange}
use Rattle.exchange.specs.declared.Step.{Step}
use Rattle.stored.specs.Stored.{encoded, decoded, blank, by_size}

-- lengths that two bytes hold
unfoldable pub fits_two : Lengths → Bool
fits_two l =
    leb l.vc length_most
    && leb l.vs length_most
    && leb l.ic length_most
    && leb l.is length_most
    && leb l.ks length_most
    && leb l.c length_most
    && leb l.s length_most

-- and a session's numbers no greater than any that fits
unfoldable pub fits_bytes : Exchange → Bool
fits_bytes e = fits_two e.lens && leb e.session.len length_most && leb e.session.count count_most

-- the bytes of an exchange, where they hold what it records
abbrev pub some_bytes : Exchange → Option (List ℕ)
some_bytes e = cond (fits_bytes e) (Some (encoded e)) None

-- the answer that the bytes give back
unfoldable pub back : ℕ → ℕ → ℕ → ℕ → List ℕ → Step
back n count second at b = record { number = n; count = count; second = second; exchange = by_size b (decoded b) blank; position = at }
