-- The worked row: a program of the class, which is computed from its tree.
use Rattle.std.proofs.Common.{◌≡◌, ℕ, zero, suc, ◌≤◌, ◌<◌, List, [], ◌∷◌, Some, None, refl, ap, subst, inl}
use Rattle.std.proofs.Common.{arith}
use Rattle.std.specs.Prelude.{cond}
use Rattle.pli_typing.specs.TypedTree as Y
use Rattle.pli_meaning.specs.declared.outcome.End.TheVariants as E
use Rattle.pli_meaning.specs.Control as F
use Rattle.pli_meaning.specs.Evaluating as V
use Rattle.pli_meaning.specs.Executing as M
use Rattle.pli_meaning.specs.Making as K
use Rattle.pli_meaning.specs.Placing as P
use Rattle.pli_meaning.specs.Raising as R
use Rattle.pli_coding.specs.Images.{code_of, picture_of}
use Rattle.pli_coding.specs.Linking.{links_of}
use Rattle.well_formed_trees.specs.Blocks.{times}
use Rattle.well_formed_trees.specs.Declarations.{SoundVariable}
use Rattle.well_formed_trees.specs.References.{Designates, IsNumberScalar, IsScalar}
use Rattle.well_formed_trees.specs.Surroundings.{Around, Returns, Table, Where}
use Rattle.well_formed_trees.specs.WellFormed.{AreNested, AreNumbered, DeclaresSound, IsBehind, IsEntry, IsWellFormed}
use Rattle.well_formed_trees.specs.WellFormed.{SoundProcedure}
use Rattle.storage_relation.proofs.Holders.{eqb-other}
use Rattle.run_steps.proofs.Linking.{linked_length}
use Rattle.expression_runs.specs.Variables.{number_declared, whole}
use Rattle.pli_headline.specs.Headline.{FitsMemory, parts}
use Rattle.number_headlines.specs.Headlines.{IsNumberProgram}
use Rattle.number_headlines.specs.Rows.{one_spot, total_body, total_head, total_main, total_program, total_spot}

-- ---- it is well formed

abbrev total_entry : Around
total_entry = record { number = 1; level = 0; outermost = []; inner = [] }

abbrev table : Table
table = [] ∷ (total_entry ∷ []) ∷ []

-- also in the list of the loop
abbrev in_total : Where
in_total = record { program = total_program; table = table; around = total_entry ∷ []; returning = Returns None }

abbrev one_is : Designates in_total (whole one_spot)
one_is = record {
  d = number_declared [];
  declared = record { found = refl; same_class = refl; block_around = inl (refl, refl) };
  dimensions = 0;
  member = record {
    place = 0;
    dimensions_are = refl;
    part_is = refl;
    some = omega arith;
    within = omega arith;
  };
  subscripted = inl refl;
}

abbrev total_is : Designates in_total (whole total_spot)
total_is = record {
  d = number_declared [];
  declared = record { found = refl; same_class = refl; block_around = inl (refl, refl) };
  dimensions = 0;
  member = record {
    place = 0;
    dimensions_are = refl;
    part_is = refl;
    some = omega arith;
    within = omega arith;
  };
  subscripted = inl refl;
}

one_scalar : IsScalar in_total (Y.FixedLeaf 31) (whole one_spot)
one_scalar = record {
  designates = one_is;
  leaf = record { type = Y.FixedLeaf 31; bounds = []; initial = [] };
  one = record { one = refl; leaf_is = refl };
  type_is = refl;
  many = refl;
}

total_scalar : IsScalar in_total (Y.FixedLeaf 31) (whole total_spot)
total_scalar = record {
  designates = total_is;
  leaf = record { type = Y.FixedLeaf 31; bounds = []; initial = [] };
  one = record { one = refl; leaf_is = refl };
  type_is = refl;
  many = refl;
}

one_number : IsNumberScalar in_total (whole one_spot)
one_number = record { precision = 31; scalar = one_scalar }

total_number : IsNumberScalar in_total (whole total_spot)
total_number = record { precision = 31; scalar = total_scalar }

total_sound : SoundProcedure table total_program total_main
total_sound = record {
  head = total_head;
  body = total_body;
  is = refl;
  kind = refl;
  line = omega arith;
  outer = [];
  held = refl;
  listed = refl;
  statements = (
    (
      record { type = Y.FixedLeaf 31; scalar = one_scalar; fits = refl },
      ((one_is, (tt, (tt, tt))), (((omega arith, omega arith), omega arith), omega arith)),
    ),
    (
      (
        ((one_number, (one_is, (tt, (tt, tt)))), omega arith),
        (
          (
            (
              (omega arith, (one_number, (one_is, (tt, (tt, tt))))),
              (
                (
                  record { type = Y.FixedLeaf 31; scalar = total_scalar; fits = refl },
                  (
                    (total_is, (tt, (tt, tt))),
                    (
                      (
                        (omega arith, omega arith),
                        (
                          (total_number, (total_is, (tt, (tt, tt)))),
                          (one_number, (one_is, (tt, (tt, tt)))),
                        ),
                      ),
                      omega arith,
                    ),
                  ),
                ),
                omega arith,
              ),
            ),
            (
              (
                record { type = Y.FixedLeaf 31; scalar = one_scalar; fits = refl },
                (
                  (one_is, (tt, (tt, tt))),
                  (
                    (
                      (omega arith, omega arith),
                      ((one_number, (one_is, (tt, (tt, tt)))), (one_number, (one_is, (tt, (tt, tt))))),
                    ),
                    omega arith,
                  ),
                ),
              ),
              tt,
            ),
          ),
          omega arith,
        ),
      ),
      tt,
    ),
  );
  labels = (tt, (tt, ((tt, (tt, tt)), tt)));
  parameters = tt;
  apart = tt;
  result = tt;
}

total_entries : (number : ℕ) → 1 ≤ number → number < 2 → IsEntry table number
total_entries zero low high = absurd (omega (arith, low))
total_entries (suc zero) low high =
    record { own = total_entry; outer = []; entry = refl; number_is = refl; shallow = omega arith }
total_entries (suc (suc n)) low high = absurd (omega (arith, high))

total_nested : AreNested table
total_nested zero own outer e = absurd (cc e)
total_nested (suc zero) own outer e =
    let none : [] ≡ outer = cc e in
    subst (λ os. IsBehind table 1 os) none tt
total_nested (suc (suc n)) own outer e = absurd (cc e)

total_numbers : AreNumbered 2 (1 ∷ [])
total_numbers = record { once = once; none = none; not_outermost = refl }
  where
    once : (n : ℕ) → 1 ≤ n → n < 2 → times n (1 ∷ []) ≡ 1
    once zero low high = absurd (omega (arith, low))
    once (suc zero) low high = refl
    once (suc (suc n)) low high = absurd (omega (arith, high))

    none : (n : ℕ) → 2 ≤ n → times n (1 ∷ []) ≡ 0
    none n low = ap (λ q. cond q 1 0) (eqb-other n 1 (λ e. omega (arith, e, low)))

number_sound : (w : Where) → SoundVariable w 0 (number_declared [])
number_sound w = record {
  members = (refl, tt);
  many = refl;
  dimensions = (refl, tt);
  leaves = (record { type_is = (omega arith, omega arith); bounds_are = tt; few = omega arith; initial_is = tt }, tt);
  areas = inl (tt, tt);
  refer = tt;
  kept = ((λ k. k, tt), tt);
  evaluations = tt;
}

next_sound : (w : Where) → SoundVariable w 1 (number_declared [])
next_sound w = record {
  members = (refl, tt);
  many = refl;
  dimensions = (refl, tt);
  leaves = (record { type_is = (omega arith, omega arith); bounds_are = tt; few = omega arith; initial_is = tt }, tt);
  areas = inl (tt, tt);
  refer = tt;
  kept = ((λ k. k, tt), tt);
  evaluations = tt;
}

total_declares : (number : ℕ) → DeclaresSound table total_program number
total_declares zero around e = tt
total_declares (suc zero) around e = (number_sound _, (next_sound _, tt))
total_declares (suc (suc n)) around e = absurd (cc e)

total_well : IsWellFormed total_program
total_well = record {
  table = table;
  main = (refl, (refl, tt));
  numbers = total_numbers;
  entries = total_entries;
  nested = total_nested;
  procedures = (total_sound, tt);
  lists = refl;
  outermost = refl;
  variables = total_declares;
}

-- ---- it is of the class

pub total_program_is : IsNumberProgram total_program
total_program_is = record { well_formed = total_well; numbers = refl }

pub total_fits : FitsMemory (picture_of parts total_program)
total_fits =
    let n = linked_length (links_of (code_of parts total_program)) 0 (code_of parts total_program) in
    record { code_fits = omega (arith, n); statics_fit = omega arith }

-- ---- what it comes to

unfoldable flows : Unit {0}
unfolding F.give F.◌>>=◌ F.◌>>◌ F.looked F.stored F.act F.finish F.returns F.jumps F.choose F.given F.list_from
    F.leaving F.repeated_while M.met_after_act
flows = tt

unfoldable values : Unit {0}
unfolding V.number V.bit V.designated V.located V.numbers V.variable_designated V.part_designated V.stored_value
    R.or_error R.demanded R.value_of R.raised R.unit_run R.error R.error_unit_run P.element_stored M.assigned
values = tt

unfoldable makings : Unit {0}
unfolding K.variables_made K.automatic_made K.extents K.variable_made K.parameters_bound
makings = tt

unfoldable statements : Unit {0}
unfolding M.statement M.statements M.list M.list_with M.block_variables_made M.entry_act M.block_list M.block_body
statements = tt

pub total_ends :
    (input : List ℕ) →
    M.meaning total_program input 36 ≡ Some (record { acts = 36; output = []; raised = []; end = E.Finished })
unfolding M.meaning M.run M.entered M.block_run flows values makings statements
total_ends input = refl
