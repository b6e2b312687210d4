-- Arrays whose elements are counted by their distance, by what they name.
use Rattle.std.proofs.Common.{◌≡◌, ℕ, List, [], ◌∷◌, ◌++◌, refl, sym, ap, ◌∙◌}
use Rattle.rv_meaning.specs.declared.instr.Register.{Register}
use Rattle.pli_language.specs.Tree.{Formats}
use Rattle.pli_typing.specs.TypedTree as Y
use Rattle.pli_coding.specs.Registers.{zero_register}
use Rattle.pli_coding.specs.Assembly.{Code, size_of}
use Rattle.pli_coding.specs.Environments.{Environment, Taken, save}
use Rattle.pli_coding.specs.Locating.{leaf_number}
use Rattle.pli_coding.specs.Streams.{by_distance, counted_element_got, counted_element_put, counted_put, field_awaited}
use Rattle.rv_assembly.specs.declared.place.Place.{Place}
use Rattle.rv_item.specs.Distances.{element_counted}
use Rattle.rv_item.specs.Elements.{part_in, variable_in}
use Rattle.rv_item.specs.Ends.{exit_behind}
use Rattle.rv_item.proofs.Distances.{counted_whole, counted_whole_of}
use Rattle.rv_stream.specs.Exits.{counted_exit, counted_kept}

put_is : (e : Environment) (t : Taken) (formats : Formats) (r : Y.Reference)
    → counted_put e t formats r
    ≡ by_distance t (leaf_number e (variable_in r) (part_in r).first)
    (counted_element_put e t formats (variable_in r) (part_in r))
put_is e t formats (Y.Referring v locator part subscripts) = refl

got_is : (e : Environment) (t : Taken) (formats : Formats) (r : Y.Reference)
    → counted_kept e t formats r
    ≡ by_distance t (leaf_number e (variable_in r) (part_in r).first)
    (field_awaited 0 ++ counted_element_got e t formats (variable_in r) (part_in r))
unfolding counted_kept
got_is e t formats (Y.Referring v locator part subscripts) = refl

put_all : (e : Environment) (t : Taken) (formats : Formats) (r : Y.Reference) (l : Y.Leaf) (before : Code)
    → l ≡ leaf_number e (variable_in r) (part_in r).first
    → element_counted (size_of (before ++ save zero_register t)) t l
    ((before ++ save zero_register t) ++ counted_element_put e t formats (variable_in r) (part_in r))
    ≡ before ++ counted_put e t formats r
put_all e t formats r l before is =
    counted_whole before (counted_element_put e t formats (variable_in r) (part_in r)) t l
    ∙ ap (λ k. before ++ by_distance t k (counted_element_put e t formats (variable_in r) (part_in r))) is
    ∙ ap (λ c. before ++ c) (sym (put_is e t formats r))

got_all : (e : Environment) (t : Taken) (formats : Formats) (r : Y.Reference) (l : Y.Leaf) (before : Code)
    → l ≡ leaf_number e (variable_in r) (part_in r).first
    → element_counted (size_of (before ++ save zero_register t)) t l
    (((before ++ save zero_register t) ++ field_awaited 0) ++ counted_element_got e t formats (variable_in r)
    (part_in r))
    ≡ before ++ counted_kept e t formats r
got_all e t formats r l before is =
    let inner : Code = counted_element_got e t formats (variable_in r) (part_in r) in
    counted_whole_of before (field_awaited 0) inner t l
    ∙ ap (λ k. before ++ by_distance t k (field_awaited 0 ++ inner)) is
    ∙ ap (λ c. before ++ c) (sym (got_is e t formats r))

-- ---- as they are written, step by step

pub put_whole : (e : Environment) (t : Taken) (formats : Formats) (r : Y.Reference) (v : Y.Variable) (p : Y.Part) (l :
    Y.Leaf)
    (z : Register) (start : ℕ) (before saved each whole : Code)
    → z ≡ zero_register → v ≡ variable_in r → p ≡ part_in r → l ≡ leaf_number e v p.first
    → saved ≡ before ++ save z t → start ≡ size_of saved → each ≡ saved ++ counted_element_put e t formats v p
    → whole ≡ element_counted start t l each → whole ≡ before ++ counted_put e t formats r
put_whole e t formats r v p l z start before saved each whole zero is part leaf s size every last =
    last
    ∙ ap (element_counted start t l) every
    ∙ ap (λ n. element_counted n t l (saved ++ counted_element_put e t formats v p)) size
    ∙ ap (λ c. element_counted (size_of c) t l (c ++ counted_element_put e t formats v p)) (s
    ∙ ap (λ x. before ++ save x t) zero)
    ∙ ap (λ c. element_counted (size_of (before ++ save zero_register t)) t l ((before ++ save zero_register t) ++ c))
    (ap (λ u. counted_element_put e t formats u p) is
    ∙ ap (λ q. counted_element_put e t formats (variable_in r) q) part)
    ∙ put_all e t formats r l before
    (leaf ∙ ap (λ u. leaf_number e u p.first) is ∙ ap (λ (q : Y.Part). leaf_number e (variable_in r) q.first) part)

pub got_whole : (e : Environment) (t : Taken) (formats : Formats) (r : Y.Reference) (v : Y.Variable) (p : Y.Part) (l :
    Y.Leaf)
    (z : Register) (start : ℕ) (before saved awaited each whole : Code)
    → z ≡ zero_register → v ≡ variable_in r → p ≡ part_in r → l ≡ leaf_number e v p.first
    → saved ≡ before ++ save z t → start ≡ size_of saved → awaited ≡ saved ++ field_awaited 0
    → each ≡ awaited ++ counted_element_got e t formats v p
    → whole ≡ element_counted start t l each → whole ≡ before ++ counted_kept e t formats r
got_whole e t formats r v p l z start before saved awaited each whole zero is part leaf s size field every last =
    last
    ∙ ap (element_counted start t l) (every ∙ ap (λ c. c ++ counted_element_got e t formats v p) field)
    ∙ ap (λ n. element_counted n t l ((saved ++ field_awaited 0) ++ counted_element_got e t formats v p)) size
    ∙ ap (λ c. element_counted (size_of c) t l ((c ++ field_awaited 0) ++ counted_element_got e t formats v p))
    (s ∙ ap (λ x. before ++ save x t) zero)
    ∙ ap (λ c. element_counted (size_of (before ++ save zero_register t)) t l
    (((before ++ save zero_register t) ++ field_awaited 0) ++ c))
    (ap (λ u. counted_element_got e t formats u p) is
    ∙ ap (λ q. counted_element_got e t formats (variable_in r) q) part)
    ∙ got_all e t formats r l before
    (leaf ∙ ap (λ u. leaf_number e u p.first) is ∙ ap (λ (q : Y.Part). leaf_number e (variable_in r) q.first) part)

pub got_exit : (t : Taken) (z : Register) (before saved : Code) (exits more : List Place)
    → z ≡ zero_register → saved ≡ before ++ save z t → more ≡ exits ++ (exit_behind saved ∷ [])
    → more ≡ exits ++ (counted_exit t before ∷ [])
unfolding counted_exit
got_exit t z before saved exits more zero s is =
    is ∙ ap (λ c. exits ++ (exit_behind c ∷ [])) (s ∙ ap (λ x. before ++ save x t) zero)
