-- The services' list of what lives after each change, and what services 7 and 10 answer.
use Rattle.std.proofs.Common.{sym}
use Rattle.std.proofs.Common.{◌≡◌, ◌≢◌, ℕ, ◌+◌, ◌^◌, ◌≤◌, List, [], ◌∷◌, map, Some, Bool, true, false, refl, ap, ◌∙◌}
use Rattle.std.proofs.Common.{arith}
use Rattle.std.specs.Prelude.{cond, ◌==◌, ◌&&◌, not, filter, nat_lt}
use Rattle.pli_meaning.specs.Contents.{Generation}
use Rattle.pli_meaning.specs.StorageState.{State, Living, living_changed, without_owner}
use Rattle.pli_meaning.specs.declared.outcome.End.TheVariants as E
use Rattle.pli_meaning.specs.declared.outcome.Limit.TheVariants as L
use Rattle.pli_serving.specs.ActsAndEnds.{run_ended}
use Rattle.pli_serving.specs.Answers.{Answer, Done}
use Rattle.pli_serving.specs.Arguments.{data_bytes}
use Rattle.pli_serving.specs.Bytes.{is_data, name_size}
use Rattle.pli_serving.specs.Making as G
use Rattle.pli_serving.specs.Outcomes.{bad_unless}
use Rattle.pli_serving.specs.ServiceState as S
use Rattle.pli_typing.specs.Signatures.{footprint, data_size}
use Rattle.pli_meaning.specs.Contents.{footprint_of, leaves_with}
use Rattle.pli_meaning.specs.StorageState.{automatic_in_use, living_of}
use Rattle.pli_serving.specs.Templates.{shape_at}
use Rattle.std.specs.Prelude.{pos}
use Rattle.storage_relation.proofs.Placing.{none_above}
use Rattle.storage_relation.proofs.Holders.{eqb-refl, eqb-other}
use Rattle.storage_relation.specs.Changes.{made, variable_of}
use Rattle.storage_relation.specs.Served.{Now, call, served_living}
use Rattle.storage_relation.specs.Stored.{Places, AreFalling, Lives, with_place}

-- ---- the list of what lives

pub served_changed :
    (π : Places) (n : ℕ) (change : Living → Living) (ls : List Living) →
    ((x : Living) → served_living π (change x) ≡ served_living π x) →
    map (served_living π) (living_changed n change ls) ≡ map (served_living π) ls
served_changed π n change [] same = refl
served_changed π n change (l ∷ ls) same = by (l.serial == n) (served_changed π n change ls same)
  where
    by :
        (q : Bool) → map (served_living π) (living_changed n change ls) ≡ map (served_living π) ls →
        map (served_living π) (cond q (change l ∷ ls) (l ∷ living_changed n change ls)) ≡ map (served_living π) (l ∷ ls)
    by true rest = ap (λ x. x ∷ map (served_living π) ls) (same l)
    by false rest = ap (λ xs. served_living π l ∷ xs) rest

served_before :
    (π : Places) (above serial place number : ℕ) (ls : List Living) → AreFalling above ls → above ≤ serial →
    map (served_living (with_place serial place number π)) ls ≡ map (served_living π) ls
served_before π above serial place number [] f h = refl
served_before π above serial place number (l ∷ ls) f h =
    let a = f.0 in
    let ne : l.serial ≢ serial = omega (arith, a, h) in
    let e = eqb-other l.serial serial ne in
    ap (λ q. record {
      serial = l.serial;
      owner = l.owner;
      signature = cond q number (π.number l.serial);
      at =
          cond q place (π.at l.serial);
    } ∷ map (served_living (with_place serial place number π)) ls) e
    ∙ ap (λ xs. served_living π l ∷ xs) (served_before π l.serial serial place number ls f.2 (omega (arith, a, h)))

pub served_added :
    (π : Places) (s : State) (l : Living) (place number : ℕ) → l.serial ≡ s.serials + 1 → Lives π s →
    map (served_living (with_place l.serial place number π)) (l ∷ s.living)
    ≡ record { serial = l.serial; owner = l.owner; signature = number; at = place } ∷ map (served_living π) s.living
served_added π s l place number serial lives =
    ap (λ q. record {
      serial = l.serial;
      owner = l.owner;
      signature = cond q number (π.number l.serial);
      at =
          cond q place (π.at l.serial);
    } ∷ map (served_living (with_place l.serial place number π)) s.living)
    (eqb-refl l.serial)
    ∙ ap (λ xs. record { serial = l.serial; owner = l.owner; signature = number; at = place } ∷ xs)
    (served_before π (s.serials + 1) l.serial place number s.living lives.falling (omega (arith, serial)))

pub served_ended :
    (π : Places) (height : ℕ) (ls : List Living) →
    map (served_living π) (without_owner height ls) ≡ filter (λ (l : S.Living). not (l.owner == height))
    (map (served_living π) ls)
served_ended π height [] = refl
served_ended π height (l ∷ ls) = by (l.owner == height) (served_ended π height ls)
  where
    by :
        (q : Bool) → map (served_living π) (without_owner height ls)
        ≡ filter (λ (l : S.Living). not (l.owner == height)) (map (served_living π) ls) →
        map (served_living π) (cond q (without_owner height ls) (l ∷ without_owner height ls))
        ≡ cond (not q) (served_living π l ∷ filter (λ (l : S.Living). not (l.owner == height))
        (map (served_living π) ls)) (filter (λ (l : S.Living). not (l.owner == height)) (map (served_living π) ls))
    by true rest = rest
    by false rest = ap (λ xs. served_living π l ∷ xs) rest

-- ---- 7: a variable is made

pub make_answer :
    (w : Now) (name signature place owner : ℕ) (g : Generation) → G.passes_limit (call w).services owner g ≡ false →
    nat_lt (w.state.serials + 1) (2 ^ 64) ≡ true →
    (is_data w.layout place (data_bytes w.keeper g.shape) ≡ true) × (is_data w.layout name name_size ≡ true) →
    G.limited (call w) name signature place owner g
    ≡ Done (G.with_living (record { serial = w.state.serials + 1; owner = owner; signature = signature; at = place })
    (call w).services) (made (variable_of w name signature place owner g) w).memory name signature
make_answer w name signature place owner g limit small there =
    let done : Answer =
    Done (G.with_living (record { serial = w.state.serials + 1; owner = owner; signature = signature; at = place })
    (call w).services) (made (variable_of w name signature place owner g) w).memory name signature
    in
    ap (λ q. cond q (run_ended (E.Limit L.Automatic) (call w).services)
    (G.variable_made (call w) name signature place owner (w.state.serials + 1) g)) limit
    ∙ ap (λ q. bad_unless (q && (is_data w.layout place (data_bytes w.keeper g.shape)
    && is_data w.layout name name_size)) done) small
    ∙ ap (λ q. bad_unless (q && is_data w.layout name name_size) done) there.0
    ∙ ap (λ q. bad_unless q done) there.1

-- what is in use for AUTOMATIC variables is as much as the storage machine counts
pub in_use :
    (π : Places) (above : ℕ) (ls : List Living) → AreFalling above ls →
    ((n : ℕ) (l : Living) → living_of ls n ≡ Some l → shape_at π.signatures (π.number n) ≡ Some l.generation.shape) →
    ((n : ℕ) (l : Living) → living_of ls n ≡ Some l → l.generation.extent ≡ pos 0) →
    G.automatic_in_use π.signatures (map (served_living π) ls) ≡ automatic_in_use ls
in_use π above [] falling shapes extents = refl
in_use π above (l ∷ ls) falling shapes extents =
    ap (λ q. cond (l.owner == 0) (G.automatic_in_use π.signatures (map (served_living π) ls))
    (q + G.automatic_in_use π.signatures (map (served_living π) ls))) one
    ∙ ap (λ n. cond (l.owner == 0) n (footprint_of l.generation + n))
    (in_use π l.serial ls falling.2 (λ n x e. shapes n x (later n x e)) (λ n x e. extents n x (later n x e)))
  where
    own : living_of (l ∷ ls) l.serial ≡ Some l
    own = ap (λ q. cond q (Some l) (living_of ls l.serial)) (eqb-refl l.serial)

    one : G.footprint_of_shape (shape_at π.signatures (π.number l.serial)) ≡ footprint_of l.generation
    one =
        ap G.footprint_of_shape (shapes l.serial l own)
        ∙ ap (λ z. footprint (data_size (record {
          class = l.generation.shape.signature.class;
          leaves = leaves_with z l.generation.shape;
        }))) (sym (extents l.serial l own))

    later : (n : ℕ) (x : Living) → living_of ls n ≡ Some x → living_of (l ∷ ls) n ≡ Some x
    later n x e =
        let less = none_above l.serial ls n x falling.2 e in
        ap (λ q. cond q (Some l) (living_of ls n)) (eqb-other l.serial n (omega (arith, less))) ∙ e
