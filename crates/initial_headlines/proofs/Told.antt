-- What code names of INITIAL values is told where it stands.
use Rattle.std.proofs.Common.{Bool, ◌≡◌, ◌⊎◌, inl, inr, ◌+◌, ◌^◌, ◌≤◌, List, [], ◌∷◌, ◌++◌, length, Some, true, false}
use Rattle.std.proofs.Common.{refl, sym, ap, ◌∙◌, subst}
use Rattle.std.specs.List.{filter, flat_map, list_any}
use Rattle.std.specs.Prelude.{cond, map}
use Rattle.std.proofs.lemmas.Bool.{or_cases, or_left, or_right}
use Rattle.std.proofs.lemmas.List.Folds.{list_any-append}
use Rattle.pli_typing.specs.TypedTree as Y
use Rattle.pli_meaning.specs.DeclaredShapes.{initial_of}
use Rattle.pli_coding.specs.Assembly.{BaseIn, CallTo, Code, ConstantBytes, DataPlace, Datum, InitialLeaf, InitialValues}
use Rattle.pli_coding.specs.Assembly.{JumpAhead, JumpBack, JumpTo, Mark, OffsetAhead, OffsetOf, Plain, Symbol}
use Rattle.pli_coding.specs.Assembly.{NumberWord, StaticStorage, same_datum}
use Rattle.pli_coding.specs.Images.{linked_code, picture_of, picture_of_code}
use Rattle.pli_coding.specs.Linking.{data_start}
use Rattle.pli_coding.specs.StaticData.{data_named, data_of_symbol, is_constant, is_initial, is_storage, is_word, once}
use Rattle.pli_coding.specs.StaticData.{static_data, values_of}
use Rattle.pli_coding.specs.StaticForms.{initial_datum}
use Rattle.code_marks.specs.CodeData.{Has}
use Rattle.code_marks.proofs.DataOnce.{named_once, placed_same, same_datum-equal, same_datum-same}
use Rattle.storage_relation.specs.Beginning.{AllGiven, AllNoEmpty}
use Rattle.run_steps.specs.DataNamed.{IsNamed, IsPlaced}
use Rattle.program_runs.specs.Initial.{Begins, BeginsWith, BytesTold, HasInitial}
use Rattle.program_places.specs.Constants.{bytes_for, constants_in, datum_at, is_unwritten}
use Rattle.program_places.specs.Programs.{code_for, links_for}
use Rattle.pli_headline.specs.Headline.{FitsMemory, parts}
use Rattle.pli_headline.proofs.DataOnce.{values_has}
use Rattle.pli_headline.proofs.Statics.{datum_there, values_behind}
use Rattle.block_headlines.proofs.Constants.{datum_told}

-- ---- what is named

has_parts : (xs ys : List Datum) (d : Datum) → Has (xs ++ ys) d → Has xs d ⊎ Has ys d
has_parts xs ys d h =
    or_cases (list_any (same_datum d) xs) (list_any (same_datum d) ys) (sym (list_any-append (same_datum d) xs ys) ∙ h)

first_or_rest : (x : Datum) (xs ys : List Datum) (d : Datum) → (Has xs d → Has ys d) →
    (same_datum d x ≡ true) ⊎ Has xs d → Has (x ∷ ys) d
first_or_rest x xs ys d more (inl s) = or_left _ _ s
first_or_rest x xs ys d more (inr h) = or_right (same_datum d x) _ (more h)

filtered_in : (p : Datum → Bool) (ds : List Datum) (d : Datum) → Has (filter p ds) d → Has ds d
filtered_in p [] d h = h
filtered_in p (x ∷ ds) d h = by_test (p x) h (λ i. filtered_in p ds d i)
  where
    by_test : (q : Bool) → Has (cond q (x ∷ filter p ds) (filter p ds)) d → (Has (filter p ds) d → Has ds d) → Has
        (x ∷ ds) d
    by_test true h' more = first_or_rest x (filter p ds) ds d more (or_cases (same_datum d x) (list_any (same_datum d)
        (filter p ds)) h')
    by_test false h' more = or_right (same_datum d x) _ (more h')

-- it is of the kind that is asked for
filtered_is : (p : Datum → Bool) (ds : List Datum) (d : Datum) → Has (filter p ds) d → p d ≡ true
filtered_is p [] d h = absurd (cc h)
filtered_is p (x ∷ ds) d h = by_test (p x) refl h (λ i. filtered_is p ds d i)
  where
    by_case : p x ≡ true → (same_datum d x ≡ true) ⊎ Has (filter p ds) d → (Has (filter p ds) d → p d ≡ true) →
        p d ≡ true
    by_case e (inl s) more = ap p (same_datum-equal d x s) ∙ e
    by_case e (inr i) more = more i

    by_test : (q : Bool) → p x ≡ q → Has (cond q (x ∷ filter p ds) (filter p ds)) d → (Has (filter p ds) d →
        p d ≡ true) → p d ≡ true
    by_test true e h' more = by_case e (or_cases (same_datum d x) (list_any (same_datum d) (filter p ds)) h') more
    by_test false e h' more = more h'

once_in : (seen ds : List Datum) (d : Datum) → Has (once seen ds) d → Has ds d
once_in seen [] d h = h
once_in seen (x ∷ ds) d h = by_test (list_any (same_datum x) seen) h (λ all i. once_in all ds d i)
  where
    by_test : (q : Bool) → Has (cond q (once seen ds) (x ∷ once (x ∷ seen) ds)) d → ((all : List Datum) → Has
        (once all ds) d → Has ds d) → Has (x ∷ ds) d
    by_test true h' more = or_right (same_datum d x) _ (more seen h')
    by_test false h' more =
        first_or_rest x (once (x ∷ seen) ds) ds d (more (x ∷ seen)) (or_cases (same_datum d x) (list_any (same_datum d)
        (once (x ∷ seen) ds)) h')

-- the values themselves are constant bytes
constants_apart : (leaves ls : List InitialLeaf) → Has (map (λ (l : InitialLeaf). ConstantBytes l.values) ls)
    (InitialValues leaves) → ⊥
constants_apart leaves [] h = cc h
constants_apart leaves (l ∷ ls) h = constants_apart leaves ls h

values_apart : (leaves : List InitialLeaf) (x : Datum) → Has (values_of x) (InitialValues leaves) → ⊥
values_apart leaves (InitialValues ls) h = constants_apart leaves ls h
values_apart leaves (ConstantBytes bytes) h = cc h
values_apart leaves (NumberWord block index) h = cc h
values_apart leaves (StaticStorage block index bytes) h = cc h

all_values_apart : (leaves : List InitialLeaf) (ds : List Datum) → Has (flat_map values_of ds) (InitialValues leaves) →
    ⊥
all_values_apart leaves [] h = cc h
all_values_apart leaves (x ∷ ds) h =
    by_case (has_parts (values_of x) (flat_map values_of ds) (InitialValues leaves) h)
    (λ i. all_values_apart leaves ds i)
  where
    by_case : Has (values_of x) (InitialValues leaves) ⊎ Has (flat_map values_of ds) (InitialValues leaves) → (Has
        (flat_map values_of ds) (InitialValues leaves) → ⊥) → ⊥
    by_case (inl i) more = values_apart leaves x i
    by_case (inr i) more = more i

symbol_is : (d : Datum) (s : Symbol) → Has (data_of_symbol s) d → s ≡ DataPlace d
symbol_is d (DataPlace x) h = by_case (or_cases (same_datum d x) false h)
  where
    by_case : (same_datum d x ≡ true) ⊎ (false ≡ true) → DataPlace x ≡ DataPlace d
    by_case (inl s) = ap DataPlace (sym (same_datum-equal d x s))
    by_case (inr e) = absurd (cc e)
symbol_is d _ h = absurd (cc h)

-- a datum among those that code names is named by an item of it
named_in : (code : Code) (d : Datum) → Has (data_named code) d → IsNamed d code
named_in [] d h = absurd (cc h)
named_in (OffsetOf r s ∷ is) d h =
    by_case (has_parts (data_of_symbol s) (data_named is) d h) (λ i. named_in is d i)
  where
    by_case :
        Has (data_of_symbol s) d ⊎ Has (data_named is) d → (Has (data_named is) d → IsNamed d is) →
        IsNamed d (OffsetOf r s ∷ is)
    by_case (inl i) more = inl (symbol_is d s i)
    by_case (inr i) more = inr (more i)
named_in (Plain i ∷ is) d h = inr (named_in is d h)
named_in (BaseIn r ∷ is) d h = inr (named_in is d h)
named_in (OffsetAhead r words ∷ is) d h = inr (named_in is d h)
named_in (JumpTo s ∷ is) d h = inr (named_in is d h)
named_in (CallTo s ∷ is) d h = inr (named_in is d h)
named_in (JumpAhead words ∷ is) d h = inr (named_in is d h)
named_in (JumpBack words ∷ is) d h = inr (named_in is d h)
named_in (Mark s ∷ is) d h = inr (named_in is d h)

-- a list that has a place is named: values are constants, and no lists
values_named : (code : Code) (leaves : List InitialLeaf) → Has (static_data code) (InitialValues leaves) → IsNamed
    (InitialValues leaves) code
values_named code leaves h =
    by_lists (has_parts (filter is_initial named) (once [] (constants ++ values) ++ (words ++ storages)) d h)
  where
    d : Datum
    d = InitialValues leaves

    named : List Datum
    named = named_once code

    constants : List Datum
    constants = filter is_constant named

    values : List Datum
    values = flat_map values_of named

    words : List Datum
    words = filter is_word named

    storages : List Datum
    storages = filter is_storage named

    by_constants : Has constants d ⊎ Has values d → ⊥
    by_constants (inl i) = let e : false ≡ true = filtered_is is_constant named d i in cc e
    by_constants (inr i) = all_values_apart leaves named i

    by_words : Has words d ⊎ Has storages d → ⊥
    by_words (inl i) = let e : false ≡ true = filtered_is is_word named d i in cc e
    by_words (inr i) = let e : false ≡ true = filtered_is is_storage named d i in cc e

    by_others : Has (once [] (constants ++ values)) d ⊎ Has (words ++ storages) d → ⊥
    by_others (inl i) = by_constants (has_parts constants values d (once_in [] (constants ++ values) d i))
    by_others (inr i) = by_words (has_parts words storages d i)

    by_lists : Has (filter is_initial named) d ⊎ Has (once [] (constants ++ values) ++ (words ++ storages)) d →
        IsNamed d code
    by_lists (inl i) = named_in code d (once_in [] (data_named code) d (filtered_in is_initial named d i))
    by_lists (inr i) = absurd (by_others (has_parts (once [] (constants ++ values)) (words ++ storages) d i))

-- ---- what is told

bytes_told :
    (code : Code) (d : Datum) → FitsMemory (picture_of_code code) → is_unwritten d ≡ true → Has (static_data code) d →
    BytesTold (constants_in code) (linked_code code) (datum_at code d) (bytes_for code d)
bytes_told code d fits is has =
    let s = datum_there code fits d has in
    record {
      behind_code = s.behind_code;
      inside = s.inside;
      told = λ n few. datum_told code d n fits is (placed_same d (data_start code) (static_data code) ∙ has) few;
    }

pub initial_told :
    (program : Y.Program) (d : Y.DeclaredVariable) (l : InitialLeaf) → FitsMemory (picture_of parts program) →
    IsPlaced (InitialValues (l ∷ [])) (links_for program).data' → initial_datum d ≡ Some (InitialValues (l ∷ [])) →
    AllGiven [] d.leaves → AllNoEmpty (initial_of d) → length d.leaves ≤ 2 ^ 32 →
    Begins (constants_in (code_for program)) (linked_code (code_for program)) (links_for program).data' d
initial_told program d l fits placed datum given some few =
    let code = code_for program in
    let lists = InitialValues (l ∷ []) in
    let there = sym (placed_same lists (data_start code) (static_data code)) ∙ placed in
    let named = values_named code (l ∷ []) there in
    let values = ConstantBytes l.values in
    let has : Has (static_data code) values =
    values_has code (l ∷ []) values named (or_left _ _ (same_datum-same values)) in
    let told : HasInitial (constants_in code) (linked_code code) (links_for program).data' d (l ∷ []) = record {
      given = given;
      some = some;
      few = few;
      whole = bytes_told code lists fits refl there;
      values = ((values_behind code l named has, bytes_told code values fits refl has), tt);
    } in
    subst (BeginsWith (constants_in code) (linked_code code) (links_for program).data' d) (sym datum) told
