-- The program of the worked row is well formed, and its image is one that a machine loads.
use Rattle.std.proofs.Common.{◌≡◌, ℕ, zero, suc, ◌<◌, ◌≤◌, List, [], ◌∷◌, Some, None, inl}
use Rattle.std.proofs.Common.{false, refl, arith, subst, ap, ◌∙◌}
use Rattle.std.specs.Prelude.{cond, ◌==◌, slice_get}
use Rattle.std.proofs.lemmas.Bool.Decides.{nat_tests}
use Rattle.pli_coding.specs.Linking.{links_of}
use Rattle.well_formed_trees.specs.Blocks.{times}
use Rattle.well_formed_trees.specs.Surroundings.{Around, Table}
use Rattle.well_formed_trees.specs.WellFormed.{AreNested, AreNumbered, DeclaresSound, IsEntry, IsWellFormed}
use Rattle.well_formed_trees.specs.WellFormed.{SoundProcedure}
use Rattle.run_steps.proofs.Linking.{linked_length}
use Rattle.program_places.specs.Programs.{HasStart, IsLoadable, IsMain, IsProcedure, code_for}
use Rattle.program_places.specs.Rows.{bare_procedure, called_body, called_head, turning_body, turning_head}
use Rattle.program_places.specs.Rows.{turning_label, turning_procedure}
use Rattle.program_places.specs.Rows.{turning_program}

abbrev outer_around : Around
outer_around = record { number = 1; level = 0; outermost = turning_label ∷ []; inner = [] }

abbrev inner_around : Around
inner_around = record { number = 2; level = 1; outermost = []; inner = [] }

abbrev turning_table : Table
turning_table = [] ∷ (outer_around ∷ []) ∷ (inner_around ∷ outer_around ∷ []) ∷ []

main_sound : SoundProcedure turning_table turning_program (bare_procedure turning_head turning_body)
main_sound =
    record {
      head = turning_head;
      body = turning_body;
      is = refl;
      kind = refl;
      line = omega arith;
      outer = [];
      held = refl;
      listed = refl;
      statements = (
        (
          (bare_procedure called_head called_body, refl, refl),
          (
            (
              record {
                procedure = bare_procedure called_head called_body;
                is = record {
                  found = refl;
                  level_is = refl;
                  kind = refl;
                  own = inner_around;
                  holder = outer_around;
                  outer = [];
                  entry = refl;
                  holder_around = inl (refl, refl);
                };
                passed = tt;
              },
              tt,
            ),
            omega arith,
          ),
        ),
        ((inl (refl, refl), omega arith), tt),
      );
      labels = ((refl, tt), (tt, (tt, tt)));
      parameters = tt;
      apart = tt;
      result = tt;
    }

called_sound : SoundProcedure turning_table turning_program (bare_procedure called_head called_body)
called_sound =
    record {
      head = called_head;
      body = called_body;
      is = refl;
      kind = refl;
      line = omega arith;
      outer = outer_around ∷ [];
      held = (refl, refl);
      listed = refl;
      statements = ((refl, omega arith), tt);
      labels = (tt, (tt, tt));
      parameters = tt;
      apart = tt;
      result = tt;
    }

turning_entry : (number : ℕ) → 1 ≤ number → number < 3 → IsEntry turning_table number
turning_entry zero low high = absurd (omega (arith, low))
turning_entry (suc zero) low high =
    record { own = outer_around; outer = []; entry = refl; number_is = refl; shallow = omega arith }
turning_entry (suc (suc zero)) low high =
    record { own = inner_around; outer = outer_around ∷ []; entry = refl; number_is = refl; shallow = omega arith }
turning_entry (suc (suc (suc n))) low high = absurd (omega (arith, high))

turning_between :
    (m : ℕ) (a : Around) (more : List Around) → 1 < m → m ≤ 2 → slice_get turning_table m ≡ Some (a ∷ more) →
    0 < a.level
turning_between zero a more low high e = absurd (omega (arith, low))
turning_between (suc zero) a more low high e = absurd (omega (arith, low))
turning_between (suc (suc zero)) a more low high e =
    let same : inner_around ≡ a = cc e in
    subst (λ (u : Around). 0 < u.level) same (omega arith)
turning_between (suc (suc (suc m))) a more low high e = absurd (omega (arith, high))

turning_nested : AreNested turning_table
turning_nested zero own outer e = absurd (cc e)
turning_nested (suc zero) own [] e = tt
turning_nested (suc zero) own (a ∷ more) e = absurd (cc e)
turning_nested (suc (suc zero)) own [] e = absurd (cc e)
turning_nested (suc (suc zero)) own (a ∷ more) e =
    let same : outer_around ≡ a = cc e in
    subst
    (λ (u : Around). (u.number < 2) × ((m : ℕ) (b : Around) (rest : List Around) → u.number < m → m ≤ 2 →
    slice_get turning_table m ≡ Some (b ∷ rest) → u.level < b.level)) same (omega arith, turning_between)
turning_nested (suc (suc (suc n))) own outer e = absurd (cc e)

turning_none : (n : ℕ) → 3 ≤ n → times n (1 ∷ 2 ∷ []) ≡ 0
turning_none n few =
    let first : (n == 1) ≡ false = grind (arith, nat_tests) in
    let second : (n == 2) ≡ false = grind (arith, nat_tests) in
    ap (λ q. cond q (suc (cond (n == 2) 1 0)) (cond (n == 2) 1 0)) first ∙ ap (λ q. cond q 1 0) second

turning_once : (n : ℕ) → 1 ≤ n → n < 3 → times n (1 ∷ 2 ∷ []) ≡ 1
turning_once zero low high = absurd (omega (arith, low))
turning_once (suc zero) low high = refl
turning_once (suc (suc zero)) low high = refl
turning_once (suc (suc (suc n))) low high = absurd (omega (arith, high))

turning_numbered : AreNumbered 3 (1 ∷ 2 ∷ [])
turning_numbered = record { once = turning_once; none = turning_none; not_outermost = refl }

turning_declares : (number : ℕ) → DeclaresSound turning_table turning_program number
turning_declares zero around e = tt
turning_declares (suc zero) around e = tt
turning_declares (suc (suc zero)) around e = tt
turning_declares (suc (suc (suc n))) around e = absurd (cc e)

turning_well_formed : IsWellFormed turning_program
turning_well_formed =
    record {
      table = turning_table;
      main = (refl, (refl, (omega arith, tt)));
      numbers = turning_numbered;
      entries = turning_entry;
      nested = turning_nested;
      procedures = (main_sound, (called_sound, tt));
      lists = refl;
      outermost = refl;
      variables = turning_declares;
    }

-- ---- what the laws ask of it

pub turning_loadable : IsLoadable turning_program
turning_loadable =
    let c = code_for turning_program in
    let n = linked_length (links_of c) 0 c in
    record { well_formed = turning_well_formed; fits = omega (arith, n) }

pub turning_starts : HasStart turning_program
turning_starts = record { variables = (tt, (tt, (tt, tt))); table = tt }

pub turning_main : IsMain turning_program turning_procedure
turning_main = refl

pub turning_found : IsProcedure turning_program called_head called_body None
turning_found = refl
