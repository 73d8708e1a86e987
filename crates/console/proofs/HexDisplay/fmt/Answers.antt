use Rattle.std.proofs.Common.{rules, ◌≡◌, ◌<◌, [], ◌∷◌, Some, take, get_or, ap, sym, ◌∙◌, false}
use Rattle.std.specs.Fmt.{styled_digits_output, digits, digits_output}
use Rattle.std.proofs.Output.{has_written_append, has_written_of_eq}
use Rattle.std.proofs.lemmas.Fmt.{hex_byte}
use Rattle.std.proofs.lemmas.List.{take_more}
use Rattle.std.proofs.lemmas.Grind.{flat_map-append}
use Rattle.console.specs.Hex.{digits_of, hex_of}
use Rattle.console.proofs.HexDisplay.fmt.Goals as goal

pub loop-b-preserved : goal.loop-b-preserved
loop-b-preserved g c = λ p.
    let bs = c.args.self.now.0.now in
    let i = c.loop-b.b-index in
    let b = get_or bs i 0 in
    let small : b < 256 = search rules in
    let number : digits_output c.in_radix.result ≡ Some (digits 16 false b) = c.in_radix.ensures in
    let shown : styled_digits_output c.in_radix.result c.laid_out.result ≡ Some (digits_of b) = rw (c.laid_out.ensures, number, hex_byte false b small) in
    let behind = c.loop-b.invariant p in
    let one_more = sym (flat_map-append digits_of (take i bs) (b ∷ [])) ∙ ap hex_of (sym (take_more bs i 0 (search rules))) in
    has_written_of_eq _ _ _ _ _ one_more (has_written_append _ _ _ _ _ _ behind ((rw shown at c.in_ok-write.ensures.writes) behind.plain (search rules)))
