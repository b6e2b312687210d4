use Rattle.std.proofs.Common.{sym, ◌∙◌}
use Rattle.rv_meaning.proofs.ImageBytes.{image_back}
use Rattle.rv_meaning.proofs.laws.one_to_one.Goals as goal

pub returns : goal.returns
returns c = record {
  one_spelling = λ i b d h g. h.spelled ∙ sym g.spelled;
  one_image = λ i j b h g. sym (image_back i b h) ∙ image_back j b g;
}
