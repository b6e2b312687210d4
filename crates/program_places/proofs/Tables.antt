-- The table of a program keeps the rules of tables if the signature of each of its variables does.
use Rattle.std.proofs.Common.{◌≡◌, ℕ, ◌≤◌, List, [], ◌∷◌, ◌++◌, Bool, true, false, None, refl}
use Rattle.std.proofs.Common.{sym, subst, arith}
use Rattle.std.specs.Prelude.{cond, map, nat_le, Option}
use Rattle.std.specs.List.{flat_map}
use Rattle.std.proofs.lemmas.Bool.{and_from}
use Rattle.std.proofs.lemmas.Bool.Decides.{nat_tests}
use Rattle.pli_language.specs.Tree.{InitialItem}
use Rattle.pli_typing.specs.TypedTree as Y
use Rattle.rv_meaning.specs.Tables.{IsSignature, TableSignature, head_fits, size_fits}
use Rattle.rv_meaning.specs.declared.image.TableKind.TheVariants as K
use Rattle.pli_coding.specs.SignatureTable.{class_number, refer_number, same_signature, signature_of, table_leaf}
use Rattle.pli_coding.specs.SignatureTable.{table_of, with_signature, with_signatures}
use Rattle.well_formed_trees.specs.Every.{Every}
use Rattle.storage_relation.specs.Tables.{AreLeaves, AreRuled}
use Rattle.program_places.specs.Tables.{IsRuled, number_leaf}

-- ---- one more signature

new_by :
    (q : Bool) (g h : TableSignature) (hs more : List TableSignature) → AreRuled (h ∷ hs) → AreRuled more →
    AreRuled (cond q (h ∷ hs) (h ∷ more))
new_by true g h hs more all rest = all
new_by false g h hs more all rest = (all.0, all.1, rest)

ruled_with :
    (g : TableSignature) (t : List TableSignature) → IsSignature g → AreLeaves g.leaves → AreRuled t →
    AreRuled (with_signature g t)
ruled_with g [] is leaves all = (is, leaves, tt)
ruled_with g (h ∷ hs) is leaves all =
    new_by (same_signature g h) g h hs (with_signature g hs) all (ruled_with g hs is leaves all.2)

ruled_all :
    (ds : List Y.DeclaredVariable) (t : List TableSignature) → Every IsRuled ds → AreRuled t →
    AreRuled (with_signatures ds t)
ruled_all [] t h all = all
ruled_all (d ∷ ds) t h all =
    ruled_all ds (with_signature (signature_of d) t) h.1 (ruled_with (signature_of d) t h.0.0 h.0.1 all)

each_append :
    (xs ys : List Y.DeclaredVariable) → Every IsRuled xs → Every IsRuled ys → Every IsRuled (xs ++ ys)
each_append [] ys h k = k
each_append (x ∷ xs) ys h k = (h.0, each_append xs ys h.1 k)

each_flat :
    (all : List (List Y.DeclaredVariable)) → Every (Every IsRuled) all → Every IsRuled (flat_map (λ ds. ds) all)
each_flat [] h = tt
each_flat (ds ∷ rest) h = each_append ds (flat_map (λ ds'. ds') rest) h.0 (each_flat rest h.1)

pub table_ruled : (program : Y.Program) → Every (Every IsRuled) program.variables → AreRuled (table_of program)
table_ruled program h = ruled_all (flat_map (λ ds. ds) program.variables) [] (each_flat program.variables h) tt

-- ---- numbers

size_ruled : (precision : ℕ) → 1 ≤ precision → precision ≤ 31 → size_fits K.Fixed precision ≡ true
size_ruled precision low high =
    let first : nat_le 1 precision ≡ true = grind (arith, nat_tests) in
    let second : nat_le precision 31 ≡ true = grind (arith, nat_tests) in
    and_from (nat_le 1 precision) (nat_le precision 31) first second

class_headed : (class : Y.StorageClass) → head_fits (class_number class) 1 0 ≡ true
class_headed Y.AutomaticClass = refl
class_headed Y.ParameterClass = refl
class_headed Y.StaticClass = refl
class_headed Y.BasedClass = refl
class_headed Y.ControlledClass = refl

number_signature :
    (class : Y.StorageClass) (precision : ℕ) (initial : List InitialItem) → 1 ≤ precision → precision ≤ 31 →
    IsSignature (record {
      class = class_number class;
      refer = 0;
      leaves = table_leaf (number_leaf precision initial) ∷ [];
    })
number_signature class precision initial low high =
    record {
      headed = class_headed class;
      leaved = (
        record {
          sized = size_ruled precision low high;
          few = omega arith;
          bounded = tt;
          placed = refl;
        },
        tt,
      );
    }

pub number_ruled :
    (d : Y.DeclaredVariable) (precision : ℕ) (initial : List InitialItem) → 1 ≤ precision → precision ≤ 31 →
    d.refer ≡ None → d.leaves ≡ number_leaf precision initial ∷ [] → IsRuled d
number_ruled d precision initial low high refer leaves =
    let by : (r : Option Y.ReferMember) (ls : List Y.Leaf) → Type 0 = λ r ls.
    IsSignature (record { class = class_number d.class; refer = refer_number r; leaves = map table_leaf ls })
    × AreLeaves (map table_leaf ls) in
    subst (λ r. by r d.leaves) (sym refer)
    (subst (λ ls. by None ls) (sym leaves) (number_signature d.class precision initial low high, (tt, tt)))
