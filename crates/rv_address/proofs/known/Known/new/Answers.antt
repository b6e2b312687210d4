use Rattle.std.proofs.Common.{map, ap, ◌∙◌}
use Rattle.pli_typing.specs.TypedStatementView.{program_of}
use Rattle.rv_address.specs.Rows.{items_of, number_rows, rows_of, sum_rows}
use Rattle.rv_address.proofs.Tabled.{numbers_are}
use Rattle.rv_address.proofs.known.Known.new.Goals as goal

pub invariant_of-result : goal.invariant_of-result
invariant_of-result c = record {
  exact_table = ∣ c.in_ok-table.ensures ∣₁;
  exact_numbers = ∣ numbers_are (program_of c.args.typed.now) (map items_of c.in_ok-table.table.items) (map items_of c.in_ok-numbers.numbers.items) c.in_ok-table.ensures (c.in_ok-numbers.ensures ∙ ap (λ t. number_rows (map items_of t) (rows_of c.deref-2.result.now)) c.deref.ensures.value ∙ ap (λ vs. number_rows (map items_of c.in_ok-table.table.items) (rows_of vs)) c.deref-2.ensures.value) ∣₁;
  exact_sums = ∣ c.in_ok-sums.ensures ∙ ap (λ vs. sum_rows (rows_of vs)) c.deref-3.ensures.value ∣₁;
}
