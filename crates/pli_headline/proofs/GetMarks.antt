-- The code of GET marks no symbols.
use Rattle.std.proofs.Common.{ℕ, ◌+◌, List, [], ◌∷◌, ◌++◌, Some, true, false, refl, sym, subst}
use Rattle.std.specs.Prelude.{pos}
use Rattle.pli_language.specs.Tree as T
use Rattle.pli_typing.specs.TypedTree as Y
use Rattle.pli_meaning.specs.Numbers.{operator_precision}
use Rattle.pli_coding.specs.Registers.{a0, a1}
use Rattle.pli_coding.specs.Assembly.{size_of}
use Rattle.pli_coding.specs.Instructions.{small, number, service, tested_service}
use Rattle.pli_coding.specs.Arithmetic.{fitted_code}
use Rattle.pli_coding.specs.Environments.{Environment, Taken}
use Rattle.pli_coding.specs.Storing.{word_stored, top_stored}
use Rattle.pli_coding.specs.Streams.{has_fixed, has_text, number_got, bit_got, text_got, as_text, field_awaited, field_stored, awaited_before, item_got, items_got, edit_ended, get_pair, get_pairs, skip_option}
use Rattle.pli_headline.specs.ProvedSoFar.{Names, Types, IsReadBy, IsProvedGetItem, AreProvedGetItems, AreProvedGetPairs, IsPart, AreSubscripts}
use Rattle.pli_headline.proofs.Variables.{HasTypes}
use Rattle.pli_headline.proofs.SymbolsMarked.{Marks, behind, constant_none, fitted_none}
use Rattle.pli_headline.proofs.PutMarks.{chosen_none}
use Rattle.pli_headline.proofs.GetNumbers.{fixed_as_number, text_as_number}
use Rattle.pli_headline.proofs.ExpressionMarks.{assigned_none, text_target_none}
use Rattle.pli_headline.proofs.Targets.{part_type}

text_got_none : (formats : T.Formats) → Marks (text_got formats) []
text_got_none formats =
    chosen_none (has_fixed formats) (has_text formats) (tested_service 36 ++ as_text operator_precision) (service 37) refl refl

-- into a variable or an element of a type
field_none : (e : Environment) (t : Taken) (block : Names) (types : Types) (formats : T.Formats) (type : Y.LeafType) (r : Y.Reference) → HasTypes e block types → IsReadBy (has_fixed formats) type → IsPart block types type r → AreSubscripts block types r → Marks (field_stored e t formats r type) []
field_none e t block types formats (Y.FixedLeaf p) r has read part subscripts =
    let last = word_stored e t r in
    behind (number_got formats) (fitted_code t p ++ last) [] (chosen_none (has_fixed formats) (has_text formats) fixed_as_number text_as_number refl refl)
    (behind (fitted_code t p) last [] (fitted_none t p) (assigned_none e t block types (Y.FixedLeaf p) r tt has (part, subscripts)))
field_none e t block types formats Y.BitLeaf r has read part subscripts =
    behind bit_got (word_stored e t r) [] refl (assigned_none e t block types Y.BitLeaf r tt has (part, subscripts))
field_none e t block types formats (Y.CharacterLeaf (Y.ConstantExtent (pos most))) r has read part subscripts =
    behind (text_got formats) (top_stored e t r) [] (text_got_none formats) (text_target_none e t block types false most r has part subscripts)
field_none e t block types formats (Y.VaryingLeaf (Y.ConstantExtent (pos most))) r has read part subscripts =
    behind (text_got formats) (top_stored e t r) [] (text_got_none formats) (text_target_none e t block types true most r has part subscripts)
field_none e t block types formats _ r has read part subscripts = absurd read

item_none : (e : Environment) (t : Taken) (block : Names) (types : Types) (formats : T.Formats) (after : ℕ) (i : Y.GetItem) → HasTypes e block types → IsProvedGetItem block types (has_fixed formats) i → Marks (item_got e t formats i after) []
item_none e t block types formats after (Y.GetScalar r) has is =
    let c = field_stored e t formats r is.type in
    subst (λ u. Marks (awaited_before (field_stored e t formats r u) after) []) (sym (part_type e block types is.type r has is.part))
    (behind (field_awaited (size_of c + after)) c [] refl (field_none e t block types formats is.type r has is.read is.part is.subscripts))
item_none e t block types formats after (Y.GetAggregate r) has is = absurd is

items_none : (e : Environment) (t : Taken) (block : Names) (types : Types) (formats : T.Formats) (after : ℕ) (is : List Y.GetItem) → HasTypes e block types → AreProvedGetItems block types (has_fixed formats) is → Marks (items_got e t formats after is) []
items_none e t block types formats after [] has are = refl
items_none e t block types formats after (i ∷ is) has are =
    let rest = items_got e t formats after is in
    behind (item_got e t formats i (size_of rest + after)) rest [] (item_none e t block types formats (size_of rest + after) i has are.0) (items_none e t block types formats after is has are.1)

pairs_none : (e : Environment) (t : Taken) (block : Names) (types : Types) (ps : List Y.GetPair) → HasTypes e block types → AreProvedGetPairs block types ps → Marks (get_pairs e t ps) []
pairs_none e t block types [] has are = refl
pairs_none e t block types (p ∷ ps) has are =
    let rest = get_pairs e t ps in
    let items = items_got e t p.formats (2 + size_of rest) p.items in
    let first : Marks (get_pair e t p (size_of rest)) [] = behind items edit_ended [] (items_none e t block types p.formats (2 + size_of rest) p.items has are.0) refl in
    behind (get_pair e t p (size_of rest)) rest [] first (pairs_none e t block types ps has are.1.1)

pub gets_none : (e : Environment) (t : Taken) (block : Names) (types : Types) (ps : List Y.GetPair) → HasTypes e block types → AreProvedGetPairs block types ps → Marks (get_pairs e t ps ++ edit_ended) []
gets_none e t block types ps has are = behind (get_pairs e t ps) edit_ended [] (pairs_none e t block types ps has are) refl

pub get_skip_none : (n : ℕ) → Marks (skip_option 0 (Some n)) []
get_skip_none n = behind (number a0 n) (small a1 0 ∷ service 39) [] (constant_none a0 (pos n)) refl
