use Rattle.std.proofs.Common.{rules, ◌≡◌, length}
use Rattle.std.proofs.lemmas.List.{nil_from_length}
use Rattle.rv_image.proofs.Tables.{no_words}
use Rattle.rv_image.proofs.image.is_loadable.Goals as goal

pub returns : goal.returns
returns c =
    let both = rw c.deref.ensures.value at c.are_instructions.ensures in
    let none : length c.args.code.now.table.items ≡ 0 = search rules in (
      λ t. (
        record {
          some_code = search rules;
          code_fits = search rules;
          decodable = both.0 t;
          entry_aligned = search rules;
          entry_in_code = search rules;
          statics_fit = search rules;
          table_fits = search rules;
          table_lists = no_words c.args.code.now.table.items (nil_from_length c.args.code.now.table.items none);
        },
        none,
      ),
      λ h. both.1 h.0.decodable,
    )
