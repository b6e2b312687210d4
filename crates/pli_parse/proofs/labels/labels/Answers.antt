use Rattle.std.proofs.Common.{◌≡◌, ℕ, List, [], ◌∷◌, ◌++◌, map, sym, ap, ◌∙◌}
use Rattle.std.proofs.lemmas.List.{map_push}
use Rattle.pli_language.specs.declared.token.Token.{Token}
use Rattle.pli_language.specs.Spells.{name_at}
use Rattle.pli_language.specs.Tree as T
use Rattle.pli_language.specs.View.{name_of, option_of}
use Rattle.pli_parse.specs.Reading.{labels_from}
use Rattle.pli_parse.proofs.LabelLaws.{after_labels, labels_on, labels_end}
use Rattle.pli_parse.proofs.labels.labels.Goals as goal

pub labels-preserved : goal.labels-preserved
labels-preserved c =
    let s : List ℕ = c.args.source.now in
    let front : List T.Name = map name_of c.labels.labels.items in
    let us : List Token = c.in-Some.behind.now in
    let t : Token = c.in-Some.first in
    let e : map name_of c.push.new.self.items ≡ front ++ name_at s t c.in-Some.word ∷ [] = ap (map name_of) c.in_ok-push.ensures.items ∙ map_push name_of c.labels.labels.items c.in_ok-named.field-0 ∙ ap (λ n. front ++ n ∷ []) c.in_ok-named.ensures in
    let at = sym c.label_front.ensures ∙ ap (option_of (λ x. (x.0, x.1, x.2.now))) c.in-Some.is in
    ap (λ u. after_labels u (labels_from s us)) e ∙ labels_on s front c.labels.rest.now us t c.in-Some.word at ∙ c.labels.invariant

pub returns : goal.returns
returns c =
    let s : List ℕ = c.args.source.now in
    let front : List T.Name = map name_of c.labels.labels.items in
    let at = sym c.label_front.ensures ∙ ap (option_of (λ x. (x.0, x.1, x.2.now))) c.in_default.is in
    sym (labels_end s front c.labels.rest.now at) ∙ c.labels.invariant
