-- The worked row with a DO that counts while a test is met: it is computed from its tree.
use Rattle.std.proofs.Common.{◌≡◌, ℕ, zero, suc, ◌≤◌, ◌<◌, List, [], ◌∷◌, Some, None, refl, ap, subst, inl}
use Rattle.std.proofs.Common.{arith}
use Rattle.std.specs.Prelude.{cond}
use Rattle.pli_language.specs.Formats.{Putting, format_moves_data, formats_move_data}
use Rattle.pli_language.specs.Tree as T
use Rattle.pli_typing.specs.TypedTree as Y
use Rattle.pli_meaning.specs.declared.outcome.End.TheVariants as E
use Rattle.pli_meaning.specs.Control as F
use Rattle.pli_meaning.specs.Evaluating as V
use Rattle.pli_meaning.specs.Executing as M
use Rattle.pli_meaning.specs.Making as K
use Rattle.pli_meaning.specs.Placing as P
use Rattle.pli_meaning.specs.Raising as R
use Rattle.pli_meaning.specs.Streaming as S
use Rattle.pli_coding.specs.Images.{code_of, picture_of}
use Rattle.pli_coding.specs.Linking.{links_of}
use Rattle.well_formed_trees.specs.Blocks.{times}
use Rattle.well_formed_trees.specs.Declarations.{SoundVariable}
use Rattle.well_formed_trees.specs.Ranges.{IsFormatList}
use Rattle.well_formed_trees.specs.References.{Designates, IsNumberScalar, IsScalar}
use Rattle.well_formed_trees.specs.Surroundings.{Around, Returns, Table, Where}
use Rattle.well_formed_trees.specs.WellFormed.{AreNested, AreNumbered, DeclaresSound, IsBehind, IsEntry, IsWellFormed}
use Rattle.well_formed_trees.specs.WellFormed.{SoundProcedure}
use Rattle.storage_relation.proofs.Holders.{eqb-other}
use Rattle.run_steps.proofs.Linking.{linked_length}
use Rattle.expression_runs.specs.Variables.{number_declared, whole}
use Rattle.pli_headline.specs.Headline.{FitsMemory, parts}
use Rattle.number_headlines.specs.Headlines.{IsNumberProgram}
use Rattle.number_headlines.specs.LoopRows.{added_spot, loops_body, loops_head, loops_main, loops_program}
use Rattle.number_headlines.specs.LoopRows.{three_wide, total_spot}

-- ---- it is well formed

abbrev loops_entry : Around
loops_entry = record { number = 1; level = 0; outermost = []; inner = [] }

abbrev table : Table
table = [] ∷ (loops_entry ∷ []) ∷ []

abbrev in_main : Where
in_main = record { program = loops_program; table = table; around = loops_entry ∷ []; returning = Returns None }

abbrev total_is : Designates in_main (whole total_spot)
total_is = record {
  d = number_declared [];
  declared = record { found = refl; same_class = refl; block_around = inl (refl, refl) };
  dimensions = 0;
  member = record {
    place = 0;
    dimensions_are = refl;
    part_is = refl;
    some = omega arith;
    within = omega arith;
  };
  subscripted = inl refl;
}

total_scalar : IsScalar in_main (Y.FixedLeaf 31) (whole total_spot)
total_scalar = record {
  designates = total_is;
  leaf = record { type = Y.FixedLeaf 31; bounds = []; initial = [] };
  one = record { one = refl; leaf_is = refl };
  type_is = refl;
  many = refl;
}

total_number : IsNumberScalar in_main (whole total_spot)
total_number = record { precision = 31; scalar = total_scalar }

abbrev added_is : Designates in_main (whole added_spot)
added_is = record {
  d = number_declared [];
  declared = record { found = refl; same_class = refl; block_around = inl (refl, refl) };
  dimensions = 0;
  member = record {
    place = 0;
    dimensions_are = refl;
    part_is = refl;
    some = omega arith;
    within = omega arith;
  };
  subscripted = inl refl;
}

added_scalar : IsScalar in_main (Y.FixedLeaf 31) (whole added_spot)
added_scalar = record {
  designates = added_is;
  leaf = record { type = Y.FixedLeaf 31; bounds = []; initial = [] };
  one = record { one = refl; leaf_is = refl };
  type_is = refl;
  many = refl;
}

added_number : IsNumberScalar in_main (whole added_spot)
added_number = record { precision = 31; scalar = added_scalar }

three_format : IsFormatList Putting three_wide
unfolding formats_move_data format_moves_data
three_format = record {
  formats_are = ((omega arith, omega arith), ((omega arith, omega arith), tt));
  moves_data = refl;
}

loops_sound : SoundProcedure table loops_program loops_main
loops_sound = record {
  head = loops_head;
  body = loops_body;
  is = refl;
  kind = refl;
  line = omega arith;
  outer = [];
  held = refl;
  listed = refl;
  statements = (
    (
      record { type = Y.FixedLeaf 31; scalar = total_scalar; fits = refl },
      (
        (total_is, (tt, (tt, tt))),
        (((omega arith, omega arith), omega arith), omega arith),
      ),
    ),
    (
      (
        (
          (added_scalar, (added_is, (tt, (tt, tt)))),
          (
            (
              (
                omega
                    arith,
                omega arith,
              ),
              omega arith,
            ),
            (omega arith, omega arith),
          ),
        ),
        (
          (
            (total_number, (total_is, (tt, (tt, tt)))),
            omega
                arith,
          ),
          (
            (
              (
                record { type = Y.FixedLeaf 31; scalar = total_scalar; fits = refl },
                (
                  (total_is, (tt, (tt, tt))),
                  (
                    (
                      (omega arith, omega arith),
                      (
                        (total_number, (total_is, (tt, (tt, tt)))),
                        (
                          added_number,
                          (
                            added_is,
                            (
                              tt,
                              (
                                tt,
                                tt,
                              ),
                            ),
                          ),
                        ),
                      ),
                    ),
                    omega arith,
                  ),
                ),
              ),
              tt,
            ),
            omega arith,
          ),
        ),
      ),
      (
        (
          (
            record {
              type = Y.FixedLeaf 31;
              scalar = total_scalar;
              fits = refl;
            },
            (
              (total_is, (tt, (tt, tt))),
              (
                (omega arith, omega arith),
                (
                  (total_number, (total_is, (tt, (tt, tt)))),
                  (total_number, (total_is, (tt, (tt, tt)))),
                ),
              ),
            ),
          ),
          (
            ((total_number, (total_is, (tt, (tt, tt)))), omega arith),
            (
              (
                (
                  tt,
                  (
                    (
                      (
                        three_format,
                        (
                          ((omega arith, omega arith), (total_number, (total_is, (tt, (tt, tt))))),
                          (
                            (
                              (
                                omega arith,
                                omega
                                    arith,
                              ),
                              (added_number, (added_is, (tt, (tt, tt)))),
                            ),
                            tt,
                          ),
                        ),
                      ),
                      tt,
                    ),
                    omega arith,
                  ),
                ),
                tt,
              ),
              omega arith,
            ),
          ),
        ),
        (
          (
            (
              record {
                type
                    = Y.FixedLeaf 31;
                scalar = added_scalar;
                fits = refl;
              },
              (
                (added_is, (tt, (tt, tt))),
                (
                  (omega arith, omega arith),
                  omega arith,
                ),
              ),
            ),
            (
              tt,
              (
                (
                  (
                    record { type = Y.FixedLeaf 31; scalar = total_scalar; fits = refl },
                    (
                      (
                        total_is,
                        (
                          tt,
                          (
                            tt,
                            tt,
                          ),
                        ),
                      ),
                      (((omega arith, omega arith), (added_number, (added_is, (tt, (tt, tt))))), omega arith),
                    ),
                  ),
                  tt,
                ),
                omega
                    arith,
              ),
            ),
          ),
          tt,
        ),
      ),
    ),
  );
  labels = (tt, (tt, ((tt, tt), ((tt, tt), ((tt, tt), tt)))));
  parameters = tt;
  apart = tt;
  result = tt;
}

loops_entries : (number : ℕ) → 1 ≤ number → number < 2 → IsEntry table number
loops_entries zero low high = absurd (omega (arith, low))
loops_entries (suc zero) low high =
    record { own = loops_entry; outer = []; entry = refl; number_is = refl; shallow = omega arith }
loops_entries (suc (suc n)) low high = absurd (omega (arith, high))

loops_nested : AreNested table
loops_nested zero own outer e = absurd (cc e)
loops_nested (suc zero) own outer e =
    let none : [] ≡ outer = cc e in
    subst (λ os. IsBehind table 1 os) none tt
loops_nested (suc (suc n)) own outer e = absurd (cc e)

loops_numbers : AreNumbered 2 (1 ∷ [])
loops_numbers = record { once = once; none = none; not_outermost = refl }
  where
    once : (n : ℕ) → 1 ≤ n → n < 2 → times n (1 ∷ []) ≡ 1
    once zero low high = absurd (omega (arith, low))
    once (suc zero) low high = refl
    once (suc (suc n)) low high = absurd (omega (arith, high))

    none : (n : ℕ) → 2 ≤ n → times n (1 ∷ []) ≡ 0
    none n low = ap (λ q. cond q 1 0) (eqb-other n 1 (λ e. omega (arith, e, low)))

number_sound : (w : Where) (n : ℕ) → SoundVariable w n (number_declared [])
number_sound w n = record {
  members = (refl, tt);
  many = refl;
  dimensions = (refl, tt);
  leaves = (record { type_is = (omega arith, omega arith); bounds_are = tt; few = omega arith; initial_is = tt }, tt);
  areas = inl (tt, tt);
  refer = tt;
  kept = ((λ k. k, tt), tt);
  evaluations = tt;
}

loops_declares : (number : ℕ) → DeclaresSound table loops_program number
loops_declares zero around e = tt
loops_declares (suc zero) around e = (number_sound _ 0, (number_sound _ 1, tt))
loops_declares (suc (suc n)) around e = absurd (cc e)

loops_well : IsWellFormed loops_program
loops_well = record {
  table = table;
  main = (refl, (refl, tt));
  numbers = loops_numbers;
  entries = loops_entries;
  nested = loops_nested;
  procedures = (loops_sound, tt);
  lists = refl;
  outermost = refl;
  variables = loops_declares;
}

-- ---- it is of the class

pub loops_program_is : IsNumberProgram loops_program
loops_program_is = record { well_formed = loops_well; numbers = refl }

pub loops_fit : FitsMemory (picture_of parts loops_program)
loops_fit =
    let n = linked_length (links_of (code_of parts loops_program)) 0 (code_of parts loops_program) in
    record { code_fits = omega (arith, n); statics_fit = omega arith }

-- ---- what it comes to

unfoldable flows : Unit {0}
unfolding F.give F.◌>>=◌ F.◌>>◌ F.looked F.stored F.act F.finish F.returns F.jumps F.choose F.given F.list_from
    F.leaving F.repeated_while M.turn_due M.within_limit M.limit_of M.condition_met M.once
flows = tt

unfoldable values : Unit {0}
unfolding V.number V.bit V.designated V.located V.numbers V.variable_designated V.part_designated V.stored_value
    R.or_error R.demanded R.value_of R.raised R.unit_run R.error R.error_unit_run P.element_stored M.assigned
    V.computational M.counter_started M.counter_value M.counter_number M.stepped
values = tt

unfoldable writings : Unit {0}
unfolding S.put S.pairs_put S.items_put S.item_put S.next_item S.controls S.control_put S.shown_by
writings = tt

unfoldable makings : Unit {0}
unfolding K.variables_made K.automatic_made K.extents K.variable_made K.parameters_bound
makings = tt

unfoldable statements : Unit {0}
unfolding M.statement M.statements M.list M.list_with M.block_variables_made M.entry_act M.block_list M.block_body
statements = tt

pub loops_end :
    (input : List ℕ) →
    M.meaning loops_program input 22
    ≡ Some (record {
      acts = 22;
      output = 32 ∷ 51 ∷ 48 ∷ 32 ∷ 32 ∷ 54 ∷ 10 ∷ [];
      raised = [];
      end = E.Finished;
    })
unfolding M.meaning M.run M.entered M.block_run flows values writings makings statements
loops_end input = refl
