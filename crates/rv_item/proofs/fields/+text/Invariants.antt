use Rattle.std.proofs.Common.{suc, ◌*◌}
use Rattle.pli_language.specs.View.{format_of, formats_of}
use Rattle.rv_data.specs.Waiting.{formats_weight, inside_weight}
use Rattle.rv_item.proofs.fields.+text.Given as goal

abbrev pub decreases-has_text : goal.decreases-has_text
decreases-has_text l = 2 * formats_weight (formats_of l.formats.now)

abbrev pub decreases-is_text : goal.decreases-is_text
decreases-is_text l = suc (2 * inside_weight (format_of l.format.now))
