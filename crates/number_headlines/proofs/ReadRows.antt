-- The worked row that reads: it is computed from its tree.
use Rattle.std.proofs.Common.{◌≡◌, ℕ, zero, suc, ◌≤◌, ◌<◌, List, [], ◌∷◌, Some, None, refl, ap, subst, inl}
use Rattle.std.proofs.Common.{arith}
use Rattle.std.specs.Prelude.{cond}
use Rattle.pli_language.specs.Formats.{Getting, Putting, format_moves_data, formats_move_data}
use Rattle.pli_language.specs.declared.condition.Condition.TheVariants as C
use Rattle.pli_typing.specs.TypedTree as Y
use Rattle.pli_meaning.specs.declared.outcome.End.TheVariants as E
use Rattle.pli_meaning.specs.Control as F
use Rattle.pli_meaning.specs.Evaluating as V
use Rattle.pli_meaning.specs.Executing as M
use Rattle.pli_meaning.specs.Making as K
use Rattle.pli_meaning.specs.Placing as P
use Rattle.pli_meaning.specs.Raising as R
use Rattle.pli_meaning.specs.Streaming as S
use Rattle.pli_coding.specs.Images.{code_of, picture_of}
use Rattle.pli_coding.specs.Linking.{links_of}
use Rattle.well_formed_trees.specs.Blocks.{times}
use Rattle.well_formed_trees.specs.Declarations.{SoundVariable}
use Rattle.well_formed_trees.specs.Ranges.{IsFormatList}
use Rattle.well_formed_trees.specs.References.{Designates, IsNumberScalar, IsScalar}
use Rattle.well_formed_trees.specs.Surroundings.{Around, Returns, Table, Where}
use Rattle.well_formed_trees.specs.WellFormed.{AreNested, AreNumbered, DeclaresSound, IsBehind, IsEntry, IsWellFormed}
use Rattle.well_formed_trees.specs.WellFormed.{SoundProcedure}
use Rattle.storage_relation.proofs.Holders.{eqb-other}
use Rattle.run_steps.proofs.Linking.{linked_length}
use Rattle.expression_runs.specs.Variables.{number_declared, whole}
use Rattle.pli_headline.specs.Headline.{FitsMemory, parts}
use Rattle.number_headlines.specs.Headlines.{IsNumberProgram}
use Rattle.number_headlines.specs.ReadRows.{first_spot, pairs_body, pairs_head, pairs_main, pairs_program, read_formats}
use Rattle.number_headlines.specs.ReadRows.{second_spot, total_formats, total_spot}

-- ---- it is well formed

abbrev pairs_entry : Around
pairs_entry = record { number = 1; level = 0; outermost = []; inner = [] }

abbrev table : Table
table = [] ∷ (pairs_entry ∷ []) ∷ []

-- also in the list of the loop
abbrev in_pairs : Where
in_pairs =
    record { program = pairs_program; table = table; around = pairs_entry ∷ []; returning = Returns None }

first_is : Designates in_pairs (whole first_spot)
first_is = record {
  d = number_declared [];
  declared = record { found = refl; same_class = refl; block_around = inl (refl, refl) };
  dimensions = 0;
  member = record {
    place = 0;
    dimensions_are = refl;
    part_is = refl;
    some = omega arith;
    within = omega arith;
  };
  subscripted = inl refl;
}

second_is : Designates in_pairs (whole second_spot)
second_is = record {
  d = number_declared [];
  declared = record { found = refl; same_class = refl; block_around = inl (refl, refl) };
  dimensions = 0;
  member = record {
    place = 0;
    dimensions_are = refl;
    part_is = refl;
    some = omega arith;
    within = omega arith;
  };
  subscripted = inl refl;
}

total_is : Designates in_pairs (whole total_spot)
total_is = record {
  d = number_declared [];
  declared = record { found = refl; same_class = refl; block_around = inl (refl, refl) };
  dimensions = 0;
  member = record {
    place = 0;
    dimensions_are = refl;
    part_is = refl;
    some = omega arith;
    within = omega arith;
  };
  subscripted = inl refl;
}

first_scalar : IsScalar in_pairs (Y.FixedLeaf 31) (whole first_spot)
unfolding first_is
first_scalar = record {
  designates = first_is;
  leaf = record { type = Y.FixedLeaf 31; bounds = []; initial = [] };
  one = record { one = refl; leaf_is = refl };
  type_is = refl;
  many = refl;
}

second_scalar : IsScalar in_pairs (Y.FixedLeaf 31) (whole second_spot)
unfolding second_is
second_scalar = record {
  designates = second_is;
  leaf = record { type = Y.FixedLeaf 31; bounds = []; initial = [] };
  one = record { one = refl; leaf_is = refl };
  type_is = refl;
  many = refl;
}

total_scalar : IsScalar in_pairs (Y.FixedLeaf 31) (whole total_spot)
unfolding total_is
total_scalar = record {
  designates = total_is;
  leaf = record { type = Y.FixedLeaf 31; bounds = []; initial = [] };
  one = record { one = refl; leaf_is = refl };
  type_is = refl;
  many = refl;
}

first_number : IsNumberScalar in_pairs (whole first_spot)
first_number = record { precision = 31; scalar = first_scalar }

second_number : IsNumberScalar in_pairs (whole second_spot)
second_number = record { precision = 31; scalar = second_scalar }

total_number : IsNumberScalar in_pairs (whole total_spot)
total_number = record { precision = 31; scalar = total_scalar }

read_list : IsFormatList Getting read_formats
unfolding formats_move_data format_moves_data
read_list = record {
  formats_are = (
    (omega arith, omega arith),
    (
      (omega arith, omega arith),
      (
        (omega arith, omega arith),
        (
          (
            tt,
            (
              (omega arith, omega arith),
              ((omega arith, omega arith), ((omega arith, omega arith), ((omega arith, omega arith), tt))),
            ),
          ),
          tt,
        ),
      ),
    ),
  );
  moves_data = refl;
}

total_list : IsFormatList Putting total_formats
unfolding formats_move_data format_moves_data
total_list = record {
  formats_are = ((omega arith, omega arith), ((omega arith, omega arith), tt));
  moves_data = refl;
}

pairs_sound : SoundProcedure table pairs_program pairs_main
unfolding first_is second_is total_is
pairs_sound = record {
  head = pairs_head;
  body = pairs_body;
  is = refl;
  kind = refl;
  line = omega arith;
  outer = [];
  held = refl;
  listed = refl;
  statements = (
    (
      record { type = Y.FixedLeaf 31; scalar = total_scalar; fits = refl },
      ((total_is, (tt, (tt, tt))), (((omega arith, omega arith), omega arith), omega arith)),
    ),
    (
      (
        ((total_number, (total_is, (tt, (tt, tt)))), omega arith),
        (
          (
            (
              (omega arith, omega arith),
              (
                (
                  (
                    read_list,
                    (
                      ((Y.FixedLeaf 31, first_scalar), ((first_is, refl), (first_is, (tt, (tt, tt))))),
                      (
                        ((Y.FixedLeaf 31, second_scalar), ((second_is, refl), (second_is, (tt, (tt, tt))))),
                        tt,
                      ),
                    ),
                  ),
                  tt,
                ),
                omega arith,
              ),
            ),
            (
              (
                record { type = Y.FixedLeaf 31; scalar = total_scalar; fits = refl },
                (
                  (total_is, (tt, (tt, tt))),
                  (
                    (
                      (omega arith, omega arith),
                      (
                        (total_number, (total_is, (tt, (tt, tt)))),
                        (
                          (first_number, (first_is, (tt, (tt, tt)))),
                          (second_number, (second_is, (tt, (tt, tt)))),
                        ),
                      ),
                    ),
                    omega arith,
                  ),
                ),
              ),
              tt,
            ),
          ),
          omega arith,
        ),
      ),
      (
        ((omega arith, omega arith), (tt, omega arith)),
        (
          (
            tt,
            (
              (
                (
                  total_list,
                  (((omega arith, omega arith), (total_number, (total_is, (tt, (tt, tt))))), tt),
                ),
                tt,
              ),
              omega arith,
            ),
          ),
          tt,
        ),
      ),
    ),
  );
  labels = (tt, (tt, ((tt, (tt, tt)), (tt, (tt, tt)))));
  parameters = tt;
  apart = tt;
  result = tt;
}

pairs_entries : (number : ℕ) → 1 ≤ number → number < 2 → IsEntry table number
pairs_entries zero low high = absurd (omega (arith, low))
pairs_entries (suc zero) low high =
    record { own = pairs_entry; outer = []; entry = refl; number_is = refl; shallow = omega arith }
pairs_entries (suc (suc n)) low high = absurd (omega (arith, high))

pairs_nested : AreNested table
pairs_nested zero own outer e = absurd (cc e)
pairs_nested (suc zero) own outer e =
    let none : [] ≡ outer = cc e in
    subst (λ os. IsBehind table 1 os) none tt
pairs_nested (suc (suc n)) own outer e = absurd (cc e)

pairs_numbers : AreNumbered 2 (1 ∷ [])
pairs_numbers = record { once = once; none = none; not_outermost = refl }
  where
    once : (n : ℕ) → 1 ≤ n → n < 2 → times n (1 ∷ []) ≡ 1
    once zero low high = absurd (omega (arith, low))
    once (suc zero) low high = refl
    once (suc (suc n)) low high = absurd (omega (arith, high))

    none : (n : ℕ) → 2 ≤ n → times n (1 ∷ []) ≡ 0
    none n low = ap (λ q. cond q 1 0) (eqb-other n 1 (λ e. omega (arith, e, low)))

number_sound : (w : Where) (index : ℕ) → SoundVariable w index (number_declared [])
number_sound w index = record {
  members = (refl, tt);
  many = refl;
  dimensions = (refl, tt);
  leaves = (record { type_is = (omega arith, omega arith); bounds_are = tt; few = omega arith; initial_is = tt }, tt);
  areas = inl (tt, tt);
  refer = tt;
  kept = ((λ k. k, tt), tt);
  evaluations = tt;
}

pairs_declares : (number : ℕ) → DeclaresSound table pairs_program number
pairs_declares zero around e = tt
pairs_declares (suc zero) around e =
    (number_sound _ _, (number_sound _ _, (number_sound _ _, tt)))
pairs_declares (suc (suc n)) around e = absurd (cc e)

pairs_well : IsWellFormed pairs_program
pairs_well = record {
  table = table;
  main = (refl, (refl, tt));
  numbers = pairs_numbers;
  entries = pairs_entries;
  nested = pairs_nested;
  procedures = (pairs_sound, tt);
  lists = refl;
  outermost = refl;
  variables = pairs_declares;
}

-- ---- it is of the class

pub pairs_program_is : IsNumberProgram pairs_program
pairs_program_is = record { well_formed = pairs_well; numbers = refl }

pub pairs_fit : FitsMemory (picture_of parts pairs_program)
pairs_fit =
    let n = linked_length (links_of (code_of parts pairs_program)) 0 (code_of parts pairs_program) in
    record { code_fits = omega (arith, n); statics_fit = omega arith }

-- ---- what it comes to

unfoldable flows : Unit {0}
unfolding F.give F.◌>>=◌ F.◌>>◌ F.looked F.stored F.act F.finish F.returns F.jumps F.choose F.given F.list_from
    F.leaving F.repeated_while F.stuck M.met_after_act
flows = tt

unfoldable values : Unit {0}
unfolding V.number V.bit V.designated V.located V.numbers V.variable_designated V.part_designated V.stored_value
    R.or_error R.demanded R.value_of R.raised R.unit_run R.error R.error_unit_run P.element_stored M.assigned
    V.computational
values = tt

unfoldable writings : Unit {0}
unfolding S.put S.pairs_put S.items_put S.item_put S.next_item S.controls S.control_put S.shown_by
writings = tt

unfoldable readings : Unit {0}
unfolding S.get S.control_got S.pairs_got S.items_got S.item_got S.field_got S.field_taken S.number_got S.scalar_if_got
    S.scalar_got S.field_converted S.number_kept
readings = tt

unfoldable makings : Unit {0}
unfolding K.variables_made K.automatic_made K.extents K.variable_made K.parameters_bound
makings = tt

unfoldable statements : Unit {0}
unfolding M.statement M.statements M.list M.list_with M.block_variables_made M.entry_act M.block_list M.block_body
statements = tt

pub pairs_end :
    M.meaning pairs_program
    (72 ∷ 10 ∷ 32 ∷ 48 ∷ 50 ∷ 32 ∷ 48 ∷ 51 ∷ 10 ∷ 32 ∷ 49 ∷ 49 ∷ 32 ∷ 48 ∷ 52 ∷ 10 ∷ []) 25
    ≡ Some (record {
      acts = 25;
      output = 32 ∷ 32 ∷ 32 ∷ 53 ∷ 48 ∷ 10 ∷ [];
      raised = [];
      end = E.Finished;
    })
unfolding M.meaning M.run M.entered M.block_run flows values writings readings makings statements
pairs_end = refl

pub pairs_stop :
    M.meaning pairs_program (72 ∷ 10 ∷ 32 ∷ 48 ∷ 50 ∷ 10 ∷ []) 12
    ≡ Some (record {
      acts = 12;
      output = [];
      raised = (C.Endfile, 40) ∷ (C.Error, 40) ∷ [];
      end = E.Error 40 5;
    })
unfolding M.meaning M.run M.entered M.block_run flows values writings readings makings statements
pairs_stop = refl
