-- The worked row whose unit jumps to a label of its procedure: it is computed from its tree.
use Rattle.std.proofs.Common.{◌≡◌, ℕ, zero, suc, ◌≤◌, ◌<◌, List, [], ◌∷◌, Some, None, refl, subst, inl, inr}
use Rattle.std.proofs.Common.{arith}
use Rattle.std.specs.Prelude.{slice_get}
use Rattle.pli_language.specs.declared.condition.Condition.TheVariants as C
use Rattle.pli_typing.specs.TypedTree as Y
use Rattle.pli_meaning.specs.declared.outcome.End.TheVariants as E
use Rattle.pli_meaning.specs.Control as F
use Rattle.pli_meaning.specs.Evaluating as V
use Rattle.pli_meaning.specs.Executing as M
use Rattle.pli_meaning.specs.Making as K
use Rattle.pli_meaning.specs.Placing as P
use Rattle.pli_meaning.specs.Raising as R
use Rattle.pli_coding.specs.Images.{code_of, picture_of}
use Rattle.pli_coding.specs.Linking.{links_of}
use Rattle.well_formed_trees.specs.Blocks.{times}
use Rattle.well_formed_trees.specs.Declarations.{SoundVariable}
use Rattle.well_formed_trees.specs.References.{Designates, IsNumberScalar, IsScalar}
use Rattle.well_formed_trees.specs.Surroundings.{Around, Returns, Table, Where}
use Rattle.well_formed_trees.specs.WellFormed.{AreNested, AreNumbered, DeclaresSound, IsBehind, IsEntry, IsWellFormed}
use Rattle.well_formed_trees.specs.WellFormed.{SoundProcedure}
use Rattle.storage_relation.proofs.Holders.{eqb-other}
use Rattle.run_steps.proofs.Linking.{linked_length}
use Rattle.expression_runs.specs.Variables.{number_declared, whole}
use Rattle.pli_headline.specs.Headline.{FitsMemory, parts}
use Rattle.unit_numbers.specs.Headlines.{IsUnitProgram}
use Rattle.unit_numbers.specs.RetreatRows.{head_at, host_body, host_procedure, retreat_body, retreat_label}
use Rattle.unit_numbers.specs.RetreatRows.{retreat_main}
use Rattle.unit_numbers.specs.RetreatRows.{retreat_program, retreat_spot, twice_body, twice_procedure}

-- ---- it is well formed

abbrev main_entry : Around
main_entry = record { number = 1; level = 0; outermost = []; inner = [] }

abbrev twice_entry : Around
twice_entry = record { number = 2; level = 1; outermost = []; inner = [] }

abbrev host_entry : Around
host_entry = record { number = 3; level = 1; outermost = retreat_label ∷ []; inner = [] }

abbrev table : Table
table =
    [] ∷ (main_entry ∷ []) ∷ (twice_entry ∷ main_entry ∷ []) ∷ (host_entry ∷ main_entry ∷ []) ∷ []

abbrev in_main : Where
in_main = record { program = retreat_program; table = table; around = main_entry ∷ []; returning = Returns None }

abbrev in_twice : Where
in_twice =
    record {
      program = retreat_program;
      table = table;
      around = twice_entry ∷ main_entry ∷ [];
      returning = Returns None;
    }

abbrev in_host : Where
in_host =
    record { program = retreat_program; table = table; around = host_entry ∷ main_entry ∷ []; returning = Returns None }

abbrev at_main : Designates in_main (whole retreat_spot)
at_main = record {
  d = number_declared [];
  declared = record { found = refl; same_class = refl; block_around = inl (refl, refl) };
  dimensions = 0;
  member = record { place = 0; dimensions_are = refl; part_is = refl; some = omega arith; within = omega arith };
  subscripted = inl refl;
}

abbrev at_twice : Designates in_twice (whole retreat_spot)
at_twice = record {
  d = number_declared [];
  declared = record { found = refl; same_class = refl; block_around = inr (inl (refl, refl)) };
  dimensions = 0;
  member = record { place = 0; dimensions_are = refl; part_is = refl; some = omega arith; within = omega arith };
  subscripted = inl refl;
}

abbrev at_host : Designates in_host (whole retreat_spot)
at_host = record {
  d = number_declared [];
  declared = record { found = refl; same_class = refl; block_around = inr (inl (refl, refl)) };
  dimensions = 0;
  member = record { place = 0; dimensions_are = refl; part_is = refl; some = omega arith; within = omega arith };
  subscripted = inl refl;
}

main_scalar : IsScalar in_main (Y.FixedLeaf 31) (whole retreat_spot)
main_scalar = record {
  designates = at_main;
  leaf = record { type = Y.FixedLeaf 31; bounds = []; initial = [] };
  one = record { one = refl; leaf_is = refl };
  type_is = refl;
  many = refl;
}

twice_scalar : IsScalar in_twice (Y.FixedLeaf 31) (whole retreat_spot)
twice_scalar = record {
  designates = at_twice;
  leaf = record { type = Y.FixedLeaf 31; bounds = []; initial = [] };
  one = record { one = refl; leaf_is = refl };
  type_is = refl;
  many = refl;
}

host_scalar : IsScalar in_host (Y.FixedLeaf 31) (whole retreat_spot)
host_scalar = record {
  designates = at_host;
  leaf = record { type = Y.FixedLeaf 31; bounds = []; initial = [] };
  one = record { one = refl; leaf_is = refl };
  type_is = refl;
  many = refl;
}

main_number : IsNumberScalar in_main (whole retreat_spot)
main_number = record { precision = 31; scalar = main_scalar }

twice_number : IsNumberScalar in_twice (whole retreat_spot)
twice_number = record { precision = 31; scalar = twice_scalar }

main_sound : SoundProcedure table retreat_program retreat_main
main_sound = record {
  head = head_at 1 0 1;
  body = retreat_body;
  is = refl;
  kind = refl;
  line = omega arith;
  outer = [];
  held = refl;
  listed = refl;
  statements = (
    (
      (host_procedure, refl, refl),
      (
        (
          record {
            procedure = host_procedure;
            is = record {
              found = refl;
              level_is = refl;
              kind = refl;
              own = host_entry;
              holder = main_entry;
              outer = [];
              entry = refl;
              holder_around = inl (refl, refl);
            };
            passed = tt;
          },
          tt,
        ),
        omega arith,
      ),
    ),
    (
      (
        record { type = Y.FixedLeaf 31; scalar = main_scalar; fits = refl },
        (
          (at_main, (tt, (tt, tt))),
          (
            (
              (omega arith, omega arith),
              (
                (main_number, (at_main, (tt, (tt, tt)))),
                (main_number, (at_main, (tt, (tt, tt)))),
              ),
            ),
            omega arith,
          ),
        ),
      ),
      tt,
    ),
  );
  labels = (tt, (tt, (tt, tt)));
  parameters = tt;
  apart = tt;
  result = tt;
}

twice_sound : SoundProcedure table retreat_program twice_procedure
twice_sound = record {
  head = head_at 2 1 3;
  body = twice_body;
  is = refl;
  kind = refl;
  line = omega arith;
  outer = main_entry ∷ [];
  held = (refl, refl);
  listed = refl;
  statements = (
    (
      record { type = Y.FixedLeaf 31; scalar = twice_scalar; fits = refl },
      (
        (at_twice, (tt, (tt, tt))),
        (
          (
            (omega arith, omega arith),
            (
              (twice_number, (at_twice, (tt, (tt, tt)))),
              (twice_number, (at_twice, (tt, (tt, tt)))),
            ),
          ),
          omega arith,
        ),
      ),
    ),
    (
      (
        (twice_procedure, refl, refl),
        (
          (
            record {
              procedure = twice_procedure;
              is = record {
                found = refl;
                level_is = refl;
                kind = refl;
                own = twice_entry;
                holder = main_entry;
                outer = [];
                entry = refl;
                holder_around = inr (inl (refl, refl));
              };
              passed = tt;
            },
            tt,
          ),
          omega arith,
        ),
      ),
      tt,
    ),
  );
  labels = (tt, (tt, (tt, tt)));
  parameters = tt;
  apart = tt;
  result = tt;
}

host_sound : SoundProcedure table retreat_program host_procedure
host_sound = record {
  head = head_at 3 1 4;
  body = host_body;
  is = refl;
  kind = refl;
  line = omega arith;
  outer = main_entry ∷ [];
  held = (refl, refl);
  listed = refl;
  statements = (
    (
      (refl, (record { line = omega arith; level = refl }, tt)),
      (((inr (inl (refl, refl)), omega arith), tt), omega arith),
    ),
    (
      (
        record { type = Y.FixedLeaf 31; scalar = host_scalar; fits = refl },
        ((at_host, (tt, (tt, tt))), (((omega arith, omega arith), omega arith), omega arith)),
      ),
      (
        (
          (twice_procedure, refl, refl),
          (
            (
              record {
                procedure = twice_procedure;
                is = record {
                  found = refl;
                  level_is = refl;
                  kind = refl;
                  own = twice_entry;
                  holder = main_entry;
                  outer = [];
                  entry = refl;
                  holder_around = inr (inl (refl, refl));
                };
                passed = tt;
              },
              tt,
            ),
            omega arith,
          ),
        ),
        (
          (
            record { type = Y.FixedLeaf 31; scalar = host_scalar; fits = refl },
            ((at_host, (tt, (tt, tt))), (((omega arith, omega arith), omega arith), omega arith)),
          ),
          tt,
        ),
      ),
    ),
  );
  labels = ((refl, tt), ((tt, (tt, tt)), (tt, (tt, (tt, tt)))));
  parameters = tt;
  apart = tt;
  result = tt;
}

retreat_entries : (number : ℕ) → 1 ≤ number → number < 4 → IsEntry table number
retreat_entries zero low high = absurd (omega (arith, low))
retreat_entries (suc zero) low high =
    record { own = main_entry; outer = []; entry = refl; number_is = refl; shallow = omega arith }
retreat_entries (suc (suc zero)) low high =
    record { own = twice_entry; outer = main_entry ∷ []; entry = refl; number_is = refl; shallow = omega arith }
retreat_entries (suc (suc (suc zero))) low high =
    record { own = host_entry; outer = main_entry ∷ []; entry = refl; number_is = refl; shallow = omega arith }
retreat_entries (suc (suc (suc (suc n)))) low high = absurd (omega (arith, high))

-- between the main procedure and a block in it stand those of its level and none further out
none_between :
    (high m : ℕ) (a : Around) (more : List Around) → high < 4 → 1 < m → m ≤ high →
    slice_get table m ≡ Some (a ∷ more) → 0 < a.level
none_between high zero a more few low within e = absurd (omega (arith, low))
none_between high (suc zero) a more few low within e = absurd (omega (arith, low))
none_between high (suc (suc zero)) a more few low within e =
    let is : twice_entry ≡ a = cc e in
    subst (λ (x : Around). 0 < x.level) is (omega arith)
none_between high (suc (suc (suc zero))) a more few low within e =
    let is : host_entry ≡ a = cc e in
    subst (λ (x : Around). 0 < x.level) is (omega arith)
none_between high (suc (suc (suc (suc n)))) a more few low within e = absurd (omega (arith, few, within))

retreat_nested : AreNested table
retreat_nested zero own outer e = absurd (cc e)
retreat_nested (suc zero) own outer e =
    let is : [] ≡ outer = cc e in
    subst (λ os. IsBehind table 1 os) is tt
retreat_nested (suc (suc zero)) own outer e =
    let is : main_entry ∷ [] ≡ outer = cc e in
    subst (λ os. IsBehind table 2 os) is
    (omega arith, λ m a more low high at. none_between 2 m a more (omega arith) low high at)
retreat_nested (suc (suc (suc zero))) own outer e =
    let is : main_entry ∷ [] ≡ outer = cc e in
    subst (λ os. IsBehind table 3 os) is
    (omega arith, λ m a more low high at. none_between 3 m a more (omega arith) low high at)
retreat_nested (suc (suc (suc (suc n)))) own outer e = absurd (cc e)

retreat_numbers : AreNumbered 4 (1 ∷ 2 ∷ 3 ∷ [])
retreat_numbers = record { once = once; none = none; not_outermost = refl }
  where
    once : (n : ℕ) → 1 ≤ n → n < 4 → times n (1 ∷ 2 ∷ 3 ∷ []) ≡ 1
    once zero low high = absurd (omega (arith, low))
    once (suc zero) low high = refl
    once (suc (suc zero)) low high = refl
    once (suc (suc (suc zero))) low high = refl
    once (suc (suc (suc (suc n)))) low high = absurd (omega (arith, high))

    none : (n : ℕ) → 4 ≤ n → times n (1 ∷ 2 ∷ 3 ∷ []) ≡ 0
    none n low =
        simp (
          eqb-other n 1 (λ e. omega (arith, e, low)),
          eqb-other n 2 (λ e. omega (arith, e, low)),
          eqb-other n 3 (λ e. omega (arith, e, low)),
        ) refl

number_sound : (w : Where) → SoundVariable w 0 (number_declared [])
number_sound w = record {
  members = (refl, tt);
  many = refl;
  dimensions = (refl, tt);
  leaves = (record { type_is = (omega arith, omega arith); bounds_are = tt; few = omega arith; initial_is = tt }, tt);
  areas = inl (tt, tt);
  refer = tt;
  kept = ((λ k. k, tt), tt);
  evaluations = tt;
}

retreat_declares : (number : ℕ) → DeclaresSound table retreat_program number
retreat_declares zero around e = tt
retreat_declares (suc zero) around e = (number_sound _, tt)
retreat_declares (suc (suc zero)) around e = tt
retreat_declares (suc (suc (suc zero))) around e = tt
retreat_declares (suc (suc (suc (suc n)))) around e = absurd (cc e)

retreat_well : IsWellFormed retreat_program
retreat_well = record {
  table = table;
  main = (refl, (refl, (omega arith, (omega arith, tt))));
  numbers = retreat_numbers;
  entries = retreat_entries;
  nested = retreat_nested;
  procedures = (main_sound, (twice_sound, (host_sound, tt)));
  lists = refl;
  outermost = refl;
  variables = retreat_declares;
}

-- ---- it is of the class

pub retreat_program_is : IsUnitProgram retreat_program
retreat_program_is = record { well_formed = retreat_well; units = refl }

pub retreat_fits : FitsMemory (picture_of parts retreat_program)
retreat_fits =
    let n = linked_length (links_of (code_of parts retreat_program)) 0 (code_of parts retreat_program) in
    record { code_fits = omega (arith, n); statics_fit = omega arith }

-- ---- what it comes to

unfoldable flows : Unit {0}
unfolding F.give F.◌>>=◌ F.◌>>◌ F.looked F.stored F.act F.finish F.returns F.jumps F.choose F.given F.list_from
    F.leaving F.repeated_while M.met_after_act
flows = tt

unfoldable values : Unit {0}
unfolding V.number V.bit V.designated V.located V.numbers V.variable_designated V.part_designated V.stored_value
    R.or_error R.demanded R.value_of R.raised R.unit_run R.error R.error_unit_run P.element_stored M.assigned
values = tt

unfoldable calls : Unit {0}
unfolding V.called V.all_passed_last V.procedure_entered V.returned
calls = tt

unfoldable makings : Unit {0}
unfolding K.variables_made K.automatic_made K.extents K.variable_made K.parameters_bound
makings = tt

unfoldable statements : Unit {0}
unfolding M.statement M.statements M.list M.list_with M.block_variables_made M.entry_act M.block_list M.block_body
    M.established_by
statements = tt

pub retreat_ends :
    (input : List ℕ) →
    M.meaning retreat_program input 40
    ≡ Some (record {
      acts = 19;
      output = [];
      raised = (C.FixedOverflow, 20) ∷ (C.FixedOverflow, 20) ∷ (C.Error, 20) ∷ [];
      end = E.Error 20 10;
    })
unfolding M.meaning M.run M.entered M.block_run flows values calls makings statements
retreat_ends input = refl
