use Rattle.std.proofs.Common.{◌∙◌, sym, rules, SFits, w32}
use Rattle.std.proofs.lemmas.Int.{to_z-of_z}
use Rattle.pli_text.proofs.Decimals.{decimal_text-is}
use Rattle.pli_text.proofs.number.decimal.Goals as goal

pub returns : goal.returns
returns c =
    let fits : SFits w32 c.args.number = search rules in
    c.as_bytes.ensures.value ∙ (simp to_z-of_z at c.format.ensures.text ∙ sym (decimal_text-is c.args.number fits))
