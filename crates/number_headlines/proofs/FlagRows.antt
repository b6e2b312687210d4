-- The worked row with a scalar of 15 bits and a bit: it is computed from its tree.
use Rattle.std.proofs.Common.{◌≡◌, ℕ, zero, suc, ◌≤◌, ◌<◌, List, [], ◌∷◌, Some, None, refl, ap, subst, inl}
use Rattle.std.proofs.Common.{arith}
use Rattle.std.specs.Prelude.{cond}
use Rattle.pli_language.specs.Formats.{Putting, format_moves_data, formats_move_data}
use Rattle.pli_typing.specs.TypedTree as Y
use Rattle.pli_meaning.specs.declared.outcome.End.TheVariants as E
use Rattle.pli_meaning.specs.Control as F
use Rattle.pli_meaning.specs.Evaluating as V
use Rattle.pli_meaning.specs.Executing as M
use Rattle.pli_meaning.specs.Making as K
use Rattle.pli_meaning.specs.Placing as P
use Rattle.pli_meaning.specs.Raising as R
use Rattle.pli_meaning.specs.Streaming as S
use Rattle.pli_coding.specs.Images.{code_of, picture_of}
use Rattle.pli_coding.specs.Linking.{links_of}
use Rattle.well_formed_trees.specs.Blocks.{times}
use Rattle.well_formed_trees.specs.Declarations.{SoundVariable}
use Rattle.well_formed_trees.specs.Ranges.{IsFormatList}
use Rattle.well_formed_trees.specs.References.{Designates, IsNumberScalar, IsScalar}
use Rattle.well_formed_trees.specs.Surroundings.{Around, Returns, Table, Where}
use Rattle.well_formed_trees.specs.WellFormed.{AreNested, AreNumbered, DeclaresSound, IsBehind, IsEntry, IsWellFormed}
use Rattle.well_formed_trees.specs.WellFormed.{SoundProcedure}
use Rattle.storage_relation.proofs.Holders.{eqb-other}
use Rattle.run_steps.proofs.Linking.{linked_length}
use Rattle.expression_runs.specs.Variables.{whole}
use Rattle.scalar_runs.specs.Scalars.{scalar_declared}
use Rattle.pli_headline.specs.Headline.{FitsMemory, parts}
use Rattle.number_headlines.specs.Headlines.{IsNumberProgram}
use Rattle.number_headlines.specs.FlagRows.{flag_body, flag_head, flag_main, flag_program, flag_spot, height_formats}
use Rattle.number_headlines.specs.FlagRows.{height_spot}

-- ---- it is well formed

abbrev flag_entry : Around
flag_entry = record { number = 1; level = 0; outermost = []; inner = [] }

abbrev table : Table
table = [] ∷ (flag_entry ∷ []) ∷ []

-- also in the list of the loop
abbrev in_flag : Where
in_flag =
    record { program = flag_program; table = table; around = flag_entry ∷ []; returning = Returns None }

abbrev height_is : Designates in_flag (whole height_spot)
height_is = record {
  d = scalar_declared (Y.FixedLeaf 15) [];
  declared = record { found = refl; same_class = refl; block_around = inl (refl, refl) };
  dimensions = 0;
  member = record {
    place = 0;
    dimensions_are = refl;
    part_is = refl;
    some = omega arith;
    within = omega arith;
  };
  subscripted = inl refl;
}

height_scalar : IsScalar in_flag (Y.FixedLeaf 15) (whole height_spot)
height_scalar = record {
  designates = height_is;
  leaf = record { type = Y.FixedLeaf 15; bounds = []; initial = [] };
  one = record { one = refl; leaf_is = refl };
  type_is = refl;
  many = refl;
}

height_number : IsNumberScalar in_flag (whole height_spot)
height_number = record { precision = 15; scalar = height_scalar }

abbrev flag_is : Designates in_flag (whole flag_spot)
flag_is = record {
  d = scalar_declared Y.BitLeaf [];
  declared = record { found = refl; same_class = refl; block_around = inl (refl, refl) };
  dimensions = 0;
  member = record {
    place = 0;
    dimensions_are = refl;
    part_is = refl;
    some = omega arith;
    within = omega arith;
  };
  subscripted = inl refl;
}

flag_scalar : IsScalar in_flag Y.BitLeaf (whole flag_spot)
flag_scalar = record {
  designates = flag_is;
  leaf = record { type = Y.BitLeaf; bounds = []; initial = [] };
  one = record { one = refl; leaf_is = refl };
  type_is = refl;
  many = refl;
}

one_format : IsFormatList Putting height_formats
unfolding formats_move_data format_moves_data
one_format = record {
  formats_are = ((omega arith, omega arith), ((omega arith, omega arith), tt));
  moves_data = refl;
}

flag_sound : SoundProcedure table flag_program flag_main
flag_sound = record {
  head = flag_head;
  body = flag_body;
  is = refl;
  kind = refl;
  line = omega arith;
  outer = [];
  held = refl;
  listed = refl;
  statements = (
    (
      record { type = Y.FixedLeaf 15; scalar = height_scalar; fits = refl },
      ((height_is, (tt, (tt, tt))), (((omega arith, omega arith), omega arith), omega arith)),
    ),
    (
      (
        record { type = Y.BitLeaf; scalar = flag_scalar; fits = tt },
        ((flag_is, (tt, (tt, tt))), (tt, omega arith)),
      ),
      (
        (
          (flag_scalar, (flag_is, (tt, (tt, tt)))),
          (
            (
              (
                tt,
                (
                  (
                    (one_format, (((omega arith, omega arith), (height_number, (height_is, (tt, (tt, tt))))), tt)),
                    tt,
                  ),
                  omega arith,
                ),
              ),
              (
                (
                  record { type = Y.FixedLeaf 15; scalar = height_scalar; fits = refl },
                  (
                    (height_is, (tt, (tt, tt))),
                    (
                      (
                        (omega arith, omega arith),
                        (
                          (height_number, (height_is, (tt, (tt, tt)))),
                          (height_number, (height_is, (tt, (tt, tt)))),
                        ),
                      ),
                      omega arith,
                    ),
                  ),
                ),
                (
                  (
                    record { type = Y.BitLeaf; scalar = flag_scalar; fits = tt },
                    (
                      (flag_is, (tt, (tt, tt))),
                      (((height_number, (height_is, (tt, (tt, tt)))), omega arith), omega arith),
                    ),
                  ),
                  tt,
                ),
              ),
            ),
            omega arith,
          ),
        ),
        tt,
      ),
    ),
  );
  labels = (tt, (tt, (tt, ((tt, (tt, (tt, tt))), tt))));
  parameters = tt;
  apart = tt;
  result = tt;
}

flag_entries : (number : ℕ) → 1 ≤ number → number < 2 → IsEntry table number
flag_entries zero low high = absurd (omega (arith, low))
flag_entries (suc zero) low high =
    record { own = flag_entry; outer = []; entry = refl; number_is = refl; shallow = omega arith }
flag_entries (suc (suc n)) low high = absurd (omega (arith, high))

flag_nested : AreNested table
flag_nested zero own outer e = absurd (cc e)
flag_nested (suc zero) own outer e =
    let none : [] ≡ outer = cc e in
    subst (λ os. IsBehind table 1 os) none tt
flag_nested (suc (suc n)) own outer e = absurd (cc e)

flag_numbers : AreNumbered 2 (1 ∷ [])
flag_numbers = record { once = once; none = none; not_outermost = refl }
  where
    once : (n : ℕ) → 1 ≤ n → n < 2 → times n (1 ∷ []) ≡ 1
    once zero low high = absurd (omega (arith, low))
    once (suc zero) low high = refl
    once (suc (suc n)) low high = absurd (omega (arith, high))

    none : (n : ℕ) → 2 ≤ n → times n (1 ∷ []) ≡ 0
    none n low = ap (λ q. cond q 1 0) (eqb-other n 1 (λ e. omega (arith, e, low)))

height_sound : (w : Where) → SoundVariable w 0 (scalar_declared (Y.FixedLeaf 15) [])
height_sound w = record {
  members = (refl, tt);
  many = refl;
  dimensions = (refl, tt);
  leaves = (record { type_is = (omega arith, omega arith); bounds_are = tt; few = omega arith; initial_is = tt }, tt);
  areas = inl (tt, tt);
  refer = tt;
  kept = ((λ k. k, tt), tt);
  evaluations = tt;
}

bit_sound : (w : Where) → SoundVariable w 1 (scalar_declared Y.BitLeaf [])
bit_sound w = record {
  members = (refl, tt);
  many = refl;
  dimensions = (refl, tt);
  leaves = (record { type_is = tt; bounds_are = tt; few = omega arith; initial_is = tt }, tt);
  areas = inl (tt, tt);
  refer = tt;
  kept = ((λ k. k, tt), tt);
  evaluations = tt;
}

flag_declares : (number : ℕ) → DeclaresSound table flag_program number
flag_declares zero around e = tt
flag_declares (suc zero) around e = (height_sound _, (bit_sound _, tt))
flag_declares (suc (suc n)) around e = absurd (cc e)

flag_well : IsWellFormed flag_program
flag_well = record {
  table = table;
  main = (refl, (refl, tt));
  numbers = flag_numbers;
  entries = flag_entries;
  nested = flag_nested;
  procedures = (flag_sound, tt);
  lists = refl;
  outermost = refl;
  variables = flag_declares;
}

-- ---- it is of the class

pub flag_program_is : IsNumberProgram flag_program
flag_program_is = record { well_formed = flag_well; numbers = refl }

pub flag_fit : FitsMemory (picture_of parts flag_program)
flag_fit =
    let n = linked_length (links_of (code_of parts flag_program)) 0 (code_of parts flag_program) in
    record { code_fits = omega (arith, n); statics_fit = omega arith }

-- ---- what it comes to

unfoldable flows : Unit {0}
unfolding F.give F.◌>>=◌ F.◌>>◌ F.looked F.stored F.act F.finish F.returns F.jumps F.choose F.given F.list_from
    F.leaving F.repeated_while M.met_after_act
flows = tt

unfoldable values : Unit {0}
unfolding V.number V.bit V.designated V.located V.numbers V.variable_designated V.part_designated V.stored_value
    R.or_error R.demanded R.value_of R.raised R.unit_run R.error R.error_unit_run P.element_stored M.assigned
    V.computational
values = tt

unfoldable writings : Unit {0}
unfolding S.put S.pairs_put S.items_put S.item_put S.next_item S.controls S.control_put S.shown_by
writings = tt

unfoldable makings : Unit {0}
unfolding K.variables_made K.automatic_made K.extents K.variable_made K.parameters_bound
makings = tt

unfoldable statements : Unit {0}
unfolding M.statement M.statements M.list M.list_with M.block_variables_made M.entry_act M.block_list M.block_body
statements = tt

pub flag_end :
    (input : List ℕ) →
    M.meaning flag_program input 36
    ≡ Some (record {
      acts = 36;
      output =
          32 ∷ 32 ∷ 49 ∷ 32 ∷ 32 ∷ 50 ∷ 32 ∷ 32 ∷ 52 ∷ 32 ∷ 32 ∷ 56 ∷ 32 ∷ 49 ∷ 54 ∷ 32 ∷ 51 ∷ 50 ∷ 10 ∷ [];
      raised = [];
      end = E.Finished;
    })
unfolding M.meaning M.run M.entered M.block_run flows values writings makings statements
flag_end input = refl
