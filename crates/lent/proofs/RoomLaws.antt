-- Where C joins the room, and K as it is written. Assumes nothing.
use Rattle.std.proofs.Common.{◌≡◌, ℕ, ◌+◌, ◌≤◌, List, length, ap, ◌∙◌, subst, arith}
use Rattle.limits.specs.Limits.{k_size, room_least}
use Rattle.buffers.specs.Bytes.{onto, laid}
use Rattle.buffers.proofs.ByteLaws.{over_zero, laid_fits}
use Rattle.wire.specs.Strings.{number_at}
use Rattle.wire.proofs.StringLaws.{number_at_lem}
use Rattle.methods.specs.Rows.{row_of}
use Rattle.methods.proofs.FormLaws.{length_most_lem}
use Rattle.transcript.specs.Fields.{field}
use Rattle.transcript.proofs.RoomLaws.{length_field, field_length_most}
use Rattle.transcript.proofs.FieldLaws.{field_length_none}
use Rattle.exchange.specs.Record.{k_length}
use Rattle.exchange.specs.Steps.{fields_end}
use Rattle.exchange.specs.declared.Stage.TheVariants.{Started}
use Rattle.exchange.specs.declared.Exchange.{Exchange}
use Rattle.exchange.proofs.CauseFacts.{FormedC, method_row}
use Rattle.exchange.specs.declared.Stage.{Stage}
use Rattle.exchange.specs.declared.Lengths.{Lengths}
use Rattle.exchange.proofs.DueLaws.{Fitting, Due}
use Rattle.exchange.proofs.StepLaws.{bounded, small, head_most, started_lengths, Small}

-- ---- C joins at the end

pub record Joins (l : Lengths) (room c : List ℕ) : Type 0 where
  pub lengths : Small l
  pub fits : fields_end l + length (field c) ≤ length room

pub joins : (n : ℕ) (e : Exchange) (room c : List ℕ) → Due n e → e.stage ≡ Started → room_least ≤ length room → FormedC e.method c → Joins e.lens room c
joins n e room c d st h k =
    let row = method_row e.method d.method_ok_is in
    let b = bounded (row_of e.method) e.stage e.lens d.lengths in
    let z = started_lengths (row_of e.method) e.lens (subst (λ (s : Stage). Fitting (row_of e.method) s e.lens) st d.lengths) in
    record {
      lengths = small (row_of e.method) e.lens row b;
      fits =
          omega (
            arith,
            head_most (row_of e.method) e.lens b,
            field_length_none e.lens.c z.0,
            field_length_none e.lens.ks z.1,
            field_length_none e.lens.s z.2,
            length_field c,
            field_length_most (length c),
            length_most_lem (row_of e.method).c (length c) k.len,
            row.c_most,
          );
    }

-- ---- K as it is written

-- K's record goes to an output's beginning
pub k_laid : (out k : List ℕ) → length k ≡ k_size → k_size ≤ length out → laid out 0 k ≡ onto out k
k_laid out k l h = laid_fits out 0 k (omega arith) ∙ over_zero out k

-- its length stands in its first four bytes
pub k_length_lem : (k : List ℕ) (n : ℕ) → length k ≡ k_size → n ≡ number_at k 0 → 4 + n ≡ k_length k
k_length_lem k n l e = ap (λ (m : ℕ). 4 + m) (e ∙ number_at_lem k 0 (omega arith))
