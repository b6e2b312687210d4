-- The worked row with texts: it is computed from its tree.
use Rattle.std.proofs.Common.{◌≡◌, ℕ, zero, suc, ◌≤◌, ◌<◌, List, [], ◌∷◌, Some, None, refl, subst, inl, inr}
use Rattle.std.proofs.Common.{arith}
use Rattle.std.specs.Prelude.{pos, slice_get}
use Rattle.pli_language.specs.Formats.{Putting, format_moves_data, formats_move_data}
use Rattle.pli_typing.specs.TypedTree as Y
use Rattle.pli_meaning.specs.declared.outcome.End.TheVariants as E
use Rattle.pli_meaning.specs.Control as F
use Rattle.pli_meaning.specs.Evaluating as V
use Rattle.pli_meaning.specs.Executing as M
use Rattle.pli_meaning.specs.Making as K
use Rattle.pli_meaning.specs.Placing as P
use Rattle.pli_meaning.specs.Raising as R
use Rattle.pli_meaning.specs.Streaming as S
use Rattle.pli_coding.specs.Images.{code_of, picture_of}
use Rattle.pli_coding.specs.Linking.{links_of}
use Rattle.well_formed_trees.specs.Blocks.{times}
use Rattle.well_formed_trees.specs.Declarations.{SoundVariable}
use Rattle.well_formed_trees.specs.Ranges.{IsFormatList}
use Rattle.well_formed_trees.specs.References.{Designates, IsNumberScalar, IsScalar, IsTextScalar}
use Rattle.well_formed_trees.specs.Surroundings.{Around, Returns, Table, Where}
use Rattle.well_formed_trees.specs.WellFormed.{AreNested, AreNumbered, DeclaresSound, IsBehind, IsEntry, IsWellFormed}
use Rattle.well_formed_trees.specs.WellFormed.{SoundProcedure}
use Rattle.storage_relation.proofs.Holders.{eqb-other}
use Rattle.run_steps.proofs.Linking.{linked_length}
use Rattle.expression_runs.specs.Variables.{number_declared, whole}
use Rattle.scalar_runs.specs.Scalars.{scalar_declared}
use Rattle.pli_headline.specs.Headline.{FitsMemory, parts}
use Rattle.number_headlines.specs.CallRows.{head_at}
use Rattle.number_headlines.specs.Headlines.{IsNumberProgram}
use Rattle.number_headlines.specs.TextRows.{count_spot, next_body, next_function, word_body, word_formats, word_main}
use Rattle.number_headlines.specs.TextRows.{word_program, word_spot, word_type}

-- ---- it is well formed

abbrev main_entry : Around
main_entry = record { number = 1; level = 0; outermost = []; inner = [] }

abbrev next_entry : Around
next_entry = record { number = 2; level = 1; outermost = []; inner = [] }

abbrev table : Table
table = [] ∷ (main_entry ∷ []) ∷ (next_entry ∷ main_entry ∷ []) ∷ []

abbrev in_main : Where
in_main = record { program = word_program; table = table; around = main_entry ∷ []; returning = Returns None }

abbrev in_next : Where
in_next =
    record {
      program = word_program;
      table = table;
      around = next_entry ∷ main_entry ∷ [];
      returning = Returns (Some (Y.FixedLeaf 31));
    }

abbrev count_in_main : Designates in_main (whole count_spot)
count_in_main = record {
  d = number_declared [];
  declared = record { found = refl; same_class = refl; block_around = inl (refl, refl) };
  dimensions = 0;
  member = record { place = 0; dimensions_are = refl; part_is = refl; some = omega arith; within = omega arith };
  subscripted = inl refl;
}

abbrev count_in_next : Designates in_next (whole count_spot)
count_in_next = record {
  d = number_declared [];
  declared = record { found = refl; same_class = refl; block_around = inr (inl (refl, refl)) };
  dimensions = 0;
  member = record { place = 0; dimensions_are = refl; part_is = refl; some = omega arith; within = omega arith };
  subscripted = inl refl;
}

abbrev word_in_main : Designates in_main (whole word_spot)
word_in_main = record {
  d = scalar_declared word_type [];
  declared = record { found = refl; same_class = refl; block_around = inl (refl, refl) };
  dimensions = 0;
  member = record { place = 0; dimensions_are = refl; part_is = refl; some = omega arith; within = omega arith };
  subscripted = inl refl;
}

main_scalar : IsScalar in_main (Y.FixedLeaf 31) (whole count_spot)
main_scalar = record {
  designates = count_in_main;
  leaf = record { type = Y.FixedLeaf 31; bounds = []; initial = [] };
  one = record { one = refl; leaf_is = refl };
  type_is = refl;
  many = refl;
}

next_scalar : IsScalar in_next (Y.FixedLeaf 31) (whole count_spot)
next_scalar = record {
  designates = count_in_next;
  leaf = record { type = Y.FixedLeaf 31; bounds = []; initial = [] };
  one = record { one = refl; leaf_is = refl };
  type_is = refl;
  many = refl;
}

word_scalar : IsScalar in_main word_type (whole word_spot)
word_scalar = record {
  designates = word_in_main;
  leaf = record { type = word_type; bounds = []; initial = [] };
  one = record { one = refl; leaf_is = refl };
  type_is = refl;
  many = refl;
}

main_number : IsNumberScalar in_main (whole count_spot)
main_number = record { precision = 31; scalar = main_scalar }

next_number : IsNumberScalar in_next (whole count_spot)
next_number = record { precision = 31; scalar = next_scalar }

word_text : IsTextScalar in_main (whole word_spot)
word_text = record { size = Y.ConstantExtent (pos 8); scalar = inr word_scalar }

one_format : IsFormatList Putting word_formats
unfolding formats_move_data format_moves_data
one_format = record {
  formats_are = (
    (omega arith, omega arith),
    (tt, ((omega arith, omega arith), (tt, ((omega arith, omega arith), ((omega arith, omega arith), tt))))),
  );
  moves_data = refl;
}

main_sound : SoundProcedure table word_program word_main
main_sound = record {
  head = head_at 1 0 1;
  body = word_body;
  is = refl;
  kind = refl;
  line = omega arith;
  outer = [];
  held = refl;
  listed = refl;
  statements = (
    (
      record { type = Y.FixedLeaf 31; scalar = main_scalar; fits = refl },
      ((count_in_main, (tt, (tt, tt))), (((omega arith, omega arith), omega arith), omega arith)),
    ),
    (
      (
        record { type = word_type; scalar = word_scalar; fits = tt },
        ((word_in_main, (tt, (tt, tt))), (omega arith, omega arith)),
      ),
      (
        (
          ((word_text, (word_in_main, (tt, (tt, tt)))), omega arith),
          (
            (
              (
                record { type = word_type; scalar = word_scalar; fits = tt },
                (
                  (word_in_main, (tt, (tt, tt))),
                  (((word_text, (word_in_main, (tt, (tt, tt)))), omega arith), omega arith),
                ),
              ),
              (
                (
                  record { type = Y.FixedLeaf 31; scalar = main_scalar; fits = refl },
                  (
                    (count_in_main, (tt, (tt, tt))),
                    (
                      (
                        (omega arith, omega arith),
                        (
                          (word_text, (word_in_main, (tt, (tt, tt)))),
                          (
                            (omega arith, omega arith),
                            (
                              (next_function, refl, tt),
                              (
                                record {
                                  procedure = next_function;
                                  is = record {
                                    found = refl;
                                    level_is = refl;
                                    kind = refl;
                                    own = next_entry;
                                    holder = main_entry;
                                    outer = [];
                                    entry = refl;
                                    holder_around = inl (refl, refl);
                                  };
                                  passed = tt;
                                },
                                tt,
                              ),
                            ),
                          ),
                        ),
                      ),
                      omega arith,
                    ),
                  ),
                ),
                tt,
              ),
            ),
            omega arith,
          ),
        ),
        (
          (
            tt,
            (
              (
                (
                  one_format,
                  (
                    omega arith,
                    (
                      (word_text, (word_in_main, (tt, (tt, tt)))),
                      (((omega arith, omega arith), (main_number, (count_in_main, (tt, (tt, tt))))), tt),
                    ),
                  ),
                ),
                tt,
              ),
              omega arith,
            ),
          ),
          tt,
        ),
      ),
    ),
  );
  labels = (tt, (tt, (tt, ((tt, (tt, tt)), (tt, tt)))));
  parameters = tt;
  apart = tt;
  result = tt;
}

next_sound : SoundProcedure table word_program next_function
next_sound = record {
  head = head_at 2 1 2;
  body = next_body;
  is = refl;
  kind = refl;
  line = omega arith;
  outer = main_entry ∷ [];
  held = (refl, refl);
  listed = refl;
  statements = (
    (
      record { type = Y.FixedLeaf 31; scalar = next_scalar; fits = refl },
      (
        (count_in_next, (tt, (tt, tt))),
        (
          (
            (omega arith, omega arith),
            ((next_number, (count_in_next, (tt, (tt, tt)))), omega arith),
          ),
          omega arith,
        ),
      ),
    ),
    (
      (
        refl,
        (
          refl,
          (((omega arith, omega arith), (next_number, (count_in_next, (tt, (tt, tt))))), omega arith),
        ),
      ),
      tt,
    ),
  );
  labels = (tt, (tt, (tt, tt)));
  parameters = tt;
  apart = tt;
  result = (omega arith, omega arith);
}

word_entries : (number : ℕ) → 1 ≤ number → number < 3 → IsEntry table number
word_entries zero low high = absurd (omega (arith, low))
word_entries (suc zero) low high =
    record { own = main_entry; outer = []; entry = refl; number_is = refl; shallow = omega arith }
word_entries (suc (suc zero)) low high =
    record { own = next_entry; outer = main_entry ∷ []; entry = refl; number_is = refl; shallow = omega arith }
word_entries (suc (suc (suc n))) low high = absurd (omega (arith, high))

-- between the main procedure and the function in it stands none
none_between :
    (high m : ℕ) (a : Around) (more : List Around) → high < 3 → 1 < m → m ≤ high →
    slice_get table m ≡ Some (a ∷ more) → 0 < a.level
none_between high zero a more few low within e = absurd (omega (arith, low))
none_between high (suc zero) a more few low within e = absurd (omega (arith, low))
none_between high (suc (suc zero)) a more few low within e =
    let is : next_entry ≡ a = cc e in
    subst (λ (x : Around). 0 < x.level) is (omega arith)
none_between high (suc (suc (suc n))) a more few low within e = absurd (omega (arith, few, within))

word_nested : AreNested table
word_nested zero own outer e = absurd (cc e)
word_nested (suc zero) own outer e =
    let is : [] ≡ outer = cc e in
    subst (λ os. IsBehind table 1 os) is tt
word_nested (suc (suc zero)) own outer e =
    let is : main_entry ∷ [] ≡ outer = cc e in
    subst (λ os. IsBehind table 2 os) is
    (omega arith, λ m a more low high at. none_between 2 m a more (omega arith) low high at)
word_nested (suc (suc (suc n))) own outer e = absurd (cc e)

word_numbers : AreNumbered 3 (1 ∷ 2 ∷ [])
word_numbers = record { once = once; none = none; not_outermost = refl }
  where
    once : (n : ℕ) → 1 ≤ n → n < 3 → times n (1 ∷ 2 ∷ []) ≡ 1
    once zero low high = absurd (omega (arith, low))
    once (suc zero) low high = refl
    once (suc (suc zero)) low high = refl
    once (suc (suc (suc n))) low high = absurd (omega (arith, high))

    none : (n : ℕ) → 3 ≤ n → times n (1 ∷ 2 ∷ []) ≡ 0
    none n low =
        simp (eqb-other n 1 (λ e. omega (arith, e, low)), eqb-other n 2 (λ e. omega (arith, e, low))) refl

count_sound : (w : Where) → SoundVariable w 0 (number_declared [])
count_sound w = record {
  members = (refl, tt);
  many = refl;
  dimensions = (refl, tt);
  leaves = (record { type_is = (omega arith, omega arith); bounds_are = tt; few = omega arith; initial_is = tt }, tt);
  areas = inl (tt, tt);
  refer = tt;
  kept = ((λ k. k, tt), tt);
  evaluations = tt;
}

word_sound : (w : Where) → SoundVariable w 1 (scalar_declared word_type [])
word_sound w = record {
  members = (refl, tt);
  many = refl;
  dimensions = (refl, tt);
  leaves = (
    record { type_is = (omega arith, (omega arith, tt)); bounds_are = tt; few = omega arith; initial_is = tt },
    tt,
  );
  areas = inl (tt, tt);
  refer = tt;
  kept = ((λ k. k, tt), tt);
  evaluations = tt;
}

word_declares : (number : ℕ) → DeclaresSound table word_program number
word_declares zero around e = tt
word_declares (suc zero) around e = (count_sound _, (word_sound _, tt))
word_declares (suc (suc zero)) around e = tt
word_declares (suc (suc (suc n))) around e = absurd (cc e)

word_well : IsWellFormed word_program
word_well = record {
  table = table;
  main = (refl, (refl, (omega arith, tt)));
  numbers = word_numbers;
  entries = word_entries;
  nested = word_nested;
  procedures = (main_sound, (next_sound, tt));
  lists = refl;
  outermost = refl;
  variables = word_declares;
}

-- ---- it is of the class

pub word_program_is : IsNumberProgram word_program
word_program_is = record { well_formed = word_well; numbers = refl }

pub word_fits : FitsMemory (picture_of parts word_program)
word_fits =
    let n = linked_length (links_of (code_of parts word_program)) 0 (code_of parts word_program) in
    record { code_fits = omega (arith, n); statics_fit = omega arith }

-- ---- what it comes to

unfoldable flows : Unit {0}
unfolding F.give F.◌>>=◌ F.◌>>◌ F.looked F.stored F.act F.finish F.returns F.jumps F.choose F.given F.list_from
    F.leaving F.repeated_while M.met_after_act
flows = tt

unfoldable values : Unit {0}
unfolding V.number V.bit V.text V.designated V.located V.numbers V.variable_designated V.part_designated V.stored_value
    R.or_error R.demanded R.value_of R.raised R.unit_run R.error R.error_unit_run P.element_stored M.assigned
    V.computational
values = tt

unfoldable writings : Unit {0}
unfolding S.put S.pairs_put S.items_put S.item_put S.next_item S.controls S.control_put S.shown_by
writings = tt

unfoldable calls : Unit {0}
unfolding V.called V.all_passed_last V.procedure_entered V.returned
calls = tt

unfoldable makings : Unit {0}
unfolding K.variables_made K.automatic_made K.extents K.variable_made K.parameters_bound
makings = tt

unfoldable statements : Unit {0}
unfolding M.statement M.statements M.list M.list_with M.block_variables_made M.entry_act M.block_list M.block_body
statements = tt

pub word_ends :
    (input : List ℕ) →
    M.meaning word_program input 22
    ≡ Some (record {
      acts = 22;
      output = 84 ∷ 61 ∷ 65 ∷ 66 ∷ 66 ∷ 32 ∷ 32 ∷ 49 ∷ 55 ∷ 10 ∷ [];
      raised = [];
      end = E.Finished;
    })
unfolding M.meaning M.run M.entered M.block_run flows values writings calls makings statements
word_ends input = refl
