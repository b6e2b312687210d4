-- The worked row that prints a table: it is computed from its tree.
use Rattle.std.proofs.Common.{◌≡◌, ℕ, zero, suc, ◌≤◌, ◌<◌, List, [], ◌∷◌, Some, None, refl, ap, subst, inl}
use Rattle.std.proofs.Common.{arith}
use Rattle.std.specs.Prelude.{cond}
use Rattle.pli_language.specs.Formats.{Putting, format_moves_data, formats_move_data}
use Rattle.pli_language.specs.Tree as T
use Rattle.pli_typing.specs.TypedTree as Y
use Rattle.pli_meaning.specs.declared.outcome.End.TheVariants as E
use Rattle.pli_meaning.specs.Control as F
use Rattle.pli_meaning.specs.Evaluating as V
use Rattle.pli_meaning.specs.Executing as M
use Rattle.pli_meaning.specs.Making as K
use Rattle.pli_meaning.specs.Placing as P
use Rattle.pli_meaning.specs.Raising as R
use Rattle.pli_meaning.specs.Streaming as S
use Rattle.pli_coding.specs.Images.{code_of, picture_of}
use Rattle.pli_coding.specs.Linking.{links_of}
use Rattle.well_formed_trees.specs.Blocks.{times}
use Rattle.well_formed_trees.specs.Declarations.{SoundVariable}
use Rattle.well_formed_trees.specs.Ranges.{IsFormatList}
use Rattle.well_formed_trees.specs.References.{Designates, IsNumberScalar, IsScalar}
use Rattle.well_formed_trees.specs.Surroundings.{Around, Returns, Table, Where}
use Rattle.well_formed_trees.specs.WellFormed.{AreNested, AreNumbered, DeclaresSound, IsBehind, IsEntry, IsWellFormed}
use Rattle.well_formed_trees.specs.WellFormed.{SoundProcedure}
use Rattle.storage_relation.proofs.Holders.{eqb-other}
use Rattle.run_steps.proofs.Linking.{linked_length}
use Rattle.expression_runs.specs.Variables.{number_declared, whole}
use Rattle.pli_headline.specs.Headline.{FitsMemory, parts}
use Rattle.number_headlines.specs.Headlines.{IsNumberProgram}
use Rattle.number_headlines.specs.PutRows.{entry_formats, entry_spot, of_width, one_space_twice, squares_body}
use Rattle.number_headlines.specs.PutRows.{squares_head, squares_main, squares_program}

-- ---- it is well formed

abbrev squares_entry : Around
squares_entry = record { number = 1; level = 0; outermost = []; inner = [] }

abbrev table : Table
table = [] ∷ (squares_entry ∷ []) ∷ []

-- also in the list of the loop
abbrev in_squares : Where
in_squares =
    record { program = squares_program; table = table; around = squares_entry ∷ []; returning = Returns None }

abbrev entry_is : Designates in_squares (whole entry_spot)
entry_is = record {
  d = number_declared [];
  declared = record { found = refl; same_class = refl; block_around = inl (refl, refl) };
  dimensions = 0;
  member = record {
    place = 0;
    dimensions_are = refl;
    part_is = refl;
    some = omega arith;
    within = omega arith;
  };
  subscripted = inl refl;
}

entry_scalar : IsScalar in_squares (Y.FixedLeaf 31) (whole entry_spot)
entry_scalar = record {
  designates = entry_is;
  leaf = record { type = Y.FixedLeaf 31; bounds = []; initial = [] };
  one = record { one = refl; leaf_is = refl };
  type_is = refl;
  many = refl;
}

entry_number : IsNumberScalar in_squares (whole entry_spot)
entry_number = record { precision = 31; scalar = entry_scalar }

two_formats : IsFormatList Putting entry_formats
unfolding formats_move_data format_moves_data
two_formats = record {
  formats_are = (
    (omega arith, omega arith),
    (
      (omega arith, omega arith),
      (
        (omega arith, omega arith),
        ((omega arith, omega arith), ((omega arith, omega arith), ((omega arith, omega arith), tt))),
      ),
    ),
  );
  moves_data = refl;
}

first_format : IsFormatList Putting (of_width 9 1 T.NoFormat)
unfolding formats_move_data format_moves_data
first_format = record {
  formats_are = ((omega arith, omega arith), ((omega arith, omega arith), tt));
  moves_data = refl;
}

second_format : IsFormatList Putting one_space_twice
unfolding formats_move_data format_moves_data
second_format = record {
  formats_are = (
    (omega arith, omega arith),
    (
      (tt, ((omega arith, omega arith), ((omega arith, omega arith), tt))),
      ((omega arith, omega arith), ((omega arith, omega arith), tt)),
    ),
  );
  moves_data = refl;
}

squares_sound : SoundProcedure table squares_program squares_main
squares_sound = record {
  head = squares_head;
  body = squares_body;
  is = refl;
  kind = refl;
  line = omega arith;
  outer = [];
  held = refl;
  listed = refl;
  statements = (
    (
      record { type = Y.FixedLeaf 31; scalar = entry_scalar; fits = refl },
      ((entry_is, (tt, (tt, tt))), (((omega arith, omega arith), omega arith), omega arith)),
    ),
    (
      (
        ((entry_number, (entry_is, (tt, (tt, tt)))), omega arith),
        (
          (
            (
              tt,
              (
                (
                  (
                    two_formats,
                    (
                      ((omega arith, omega arith), (entry_number, (entry_is, (tt, (tt, tt))))),
                      (
                        (
                          (omega arith, omega arith),
                          (
                            (entry_number, (entry_is, (tt, (tt, tt)))),
                            (entry_number, (entry_is, (tt, (tt, tt)))),
                          ),
                        ),
                        tt,
                      ),
                    ),
                  ),
                  tt,
                ),
                omega arith,
              ),
            ),
            (
              ((omega arith, omega arith), (tt, omega arith)),
              (
                (
                  record { type = Y.FixedLeaf 31; scalar = entry_scalar; fits = refl },
                  (
                    (entry_is, (tt, (tt, tt))),
                    (
                      (
                        (omega arith, omega arith),
                        ((entry_number, (entry_is, (tt, (tt, tt)))), omega arith),
                      ),
                      omega arith,
                    ),
                  ),
                ),
                tt,
              ),
            ),
          ),
          omega arith,
        ),
      ),
      (
        (
          (omega arith, omega arith),
          (
            (
              (
                first_format,
                (((omega arith, omega arith), (entry_number, (entry_is, (tt, (tt, tt))))), tt),
              ),
              (
                (
                  second_format,
                  (
                    (
                      (omega arith, omega arith),
                      ((entry_number, (entry_is, (tt, (tt, tt)))), omega arith),
                    ),
                    tt,
                  ),
                ),
                tt,
              ),
            ),
            omega arith,
          ),
        ),
        tt,
      ),
    ),
  );
  labels = (tt, (tt, ((tt, (tt, (tt, tt))), (tt, tt))));
  parameters = tt;
  apart = tt;
  result = tt;
}

squares_entries : (number : ℕ) → 1 ≤ number → number < 2 → IsEntry table number
squares_entries zero low high = absurd (omega (arith, low))
squares_entries (suc zero) low high =
    record { own = squares_entry; outer = []; entry = refl; number_is = refl; shallow = omega arith }
squares_entries (suc (suc n)) low high = absurd (omega (arith, high))

squares_nested : AreNested table
squares_nested zero own outer e = absurd (cc e)
squares_nested (suc zero) own outer e =
    let none : [] ≡ outer = cc e in
    subst (λ os. IsBehind table 1 os) none tt
squares_nested (suc (suc n)) own outer e = absurd (cc e)

squares_numbers : AreNumbered 2 (1 ∷ [])
squares_numbers = record { once = once; none = none; not_outermost = refl }
  where
    once : (n : ℕ) → 1 ≤ n → n < 2 → times n (1 ∷ []) ≡ 1
    once zero low high = absurd (omega (arith, low))
    once (suc zero) low high = refl
    once (suc (suc n)) low high = absurd (omega (arith, high))

    none : (n : ℕ) → 2 ≤ n → times n (1 ∷ []) ≡ 0
    none n low = ap (λ q. cond q 1 0) (eqb-other n 1 (λ e. omega (arith, e, low)))

number_sound : (w : Where) → SoundVariable w 0 (number_declared [])
number_sound w = record {
  members = (refl, tt);
  many = refl;
  dimensions = (refl, tt);
  leaves = (record { type_is = (omega arith, omega arith); bounds_are = tt; few = omega arith; initial_is = tt }, tt);
  areas = inl (tt, tt);
  refer = tt;
  kept = ((λ k. k, tt), tt);
  evaluations = tt;
}

squares_declares : (number : ℕ) → DeclaresSound table squares_program number
squares_declares zero around e = tt
squares_declares (suc zero) around e = (number_sound _, tt)
squares_declares (suc (suc n)) around e = absurd (cc e)

squares_well : IsWellFormed squares_program
squares_well = record {
  table = table;
  main = (refl, (refl, tt));
  numbers = squares_numbers;
  entries = squares_entries;
  nested = squares_nested;
  procedures = (squares_sound, tt);
  lists = refl;
  outermost = refl;
  variables = squares_declares;
}

-- ---- it is of the class

pub squares_program_is : IsNumberProgram squares_program
squares_program_is = record { well_formed = squares_well; numbers = refl }

pub squares_fit : FitsMemory (picture_of parts squares_program)
squares_fit =
    let n = linked_length (links_of (code_of parts squares_program)) 0 (code_of parts squares_program) in
    record { code_fits = omega (arith, n); statics_fit = omega arith }

-- ---- what it comes to

unfoldable flows : Unit {0}
unfolding F.give F.◌>>=◌ F.◌>>◌ F.looked F.stored F.act F.finish F.returns F.jumps F.choose F.given F.list_from
    F.leaving F.repeated_while M.met_after_act
flows = tt

unfoldable values : Unit {0}
unfolding V.number V.bit V.designated V.located V.numbers V.variable_designated V.part_designated V.stored_value
    R.or_error R.demanded R.value_of R.raised R.unit_run R.error R.error_unit_run P.element_stored M.assigned
    V.computational
values = tt

unfoldable writings : Unit {0}
unfolding S.put S.pairs_put S.items_put S.item_put S.next_item S.controls S.control_put S.shown_by
writings = tt

unfoldable makings : Unit {0}
unfolding K.variables_made K.automatic_made K.extents K.variable_made K.parameters_bound
makings = tt

unfoldable statements : Unit {0}
unfolding M.statement M.statements M.list M.list_with M.block_variables_made M.entry_act M.block_list M.block_body
statements = tt

pub squares_end :
    (input : List ℕ) →
    M.meaning squares_program input 35
    ≡ Some (record {
      acts = 35;
      output =
          32 ∷ 32 ∷ 49 ∷ 32 ∷ 32 ∷ 32 ∷ 32 ∷ 49 ∷ 10
          ∷ 32 ∷ 32 ∷ 50 ∷ 32 ∷ 32 ∷ 32 ∷ 32 ∷ 52 ∷ 10
          ∷ 32 ∷ 32 ∷ 51 ∷ 32 ∷ 32 ∷ 32 ∷ 32 ∷ 57 ∷ 10
          ∷ 10 ∷ 10
          ∷ 52 ∷ 32 ∷ 32 ∷ 45 ∷ 49 ∷ 10
          ∷ [];
      raised = [];
      end = E.Finished;
    })
unfolding M.meaning M.run M.entered M.block_run flows values writings makings statements
squares_end input = refl
