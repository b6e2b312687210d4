-- Where memory runs out, what was written is the front of what the source means.
use Rattle.std.proofs.Common.{◌≡◌, ℕ, ◌≤◌, List, [], Ok, Err, inl, inr, refl, sym, ap, ◌∙◌, subst}
use Rattle.pli_language.specs.Parsing.{Spells}
use Rattle.pli_language.proofs.UniqueSource.{spelled_once}
use Rattle.pli_lex.proofs.Unique.{one_list}
use Rattle.pli_typing.specs.Resolving.{typed_tree}
use Rattle.pli_typing.specs.TypedTree as Y
use Rattle.pli_meaning.specs.Laws.{IsPrefix}
use Rattle.meaning_runs.specs.Present.{AcceptedMeaningThere, IsMeant}
use Rattle.pli_compile.specs.Compiling.{IsProgramOf, IsProved}
use Rattle.pli_run.specs.Answering.{ShowsPart}
use Rattle.pli_run.specs.OutOfMemory.{Begins, MemoryFronts}
use Rattle.pli_run.specs.declared.run.RunFault.TheVariants as F
use Rattle.pli_run.proofs.Answered.{resolved_is}

-- a source has one program
same_program : {s : List ℕ} {p q : Y.Program} → IsProgramOf s p → IsProgramOf s q → p ≡ q
same_program {s = s} a b =
    let tokens : a.tokens ≡ b.tokens = one_list s a.tokens b.tokens a.accepted.read b.accepted.read in
    let tree : a.tree ≡ b.tree =
    spelled_once a.accepted.spelled (subst (λ ts. Spells s ts b.tree) (sym tokens) b.accepted.spelled) in
    resolved_is a.resolved ∙ ap typed_tree tree ∙ sym (resolved_is b.resolved)

part_begins : {program : Y.Program} {input : List ℕ} {acts : ℕ} {output : List ℕ} →
    ShowsPart program input acts output → (more : ℕ) → acts ≤ more → Begins program input more output
part_begins part more h =
    let on = part.goes_on more h in
    record {
      world = on.world;
      meant = on.meant;
      front = subst (λ l. IsPrefix l on.world.output) (sym part.output_is) on.extends.output;
    }

-- a program's output begins with nothing
none_begins : {s : List ℕ} {program : Y.Program} → AcceptedMeaningThere → IsProgramOf s program →
    (input output : List ℕ) → output ≡ [] → (more : ℕ) → Begins program input more output
none_begins {s = s} law source input output none more =
    let accepted = source.accepted in
    let there : IsMeant (typed_tree source.tree) input more =
    law s source.tokens source.tree accepted.read accepted.spelled accepted.declares accepted.keeps_types input more in
    subst (λ p. Begins p input more output) (sym (resolved_is source.resolved))
    (record {
      world = there.world;
      meant = there.meant;
      front =
          subst (λ l. IsPrefix l there.world.output) (sym none)
          (record { rest = there.world.output; joined = refl });
    })

pub memory_fronts : AcceptedMeaningThere → MemoryFronts
memory_fronts law s input base bound output taken (Err (F.Memory acts own)) (inl none) =
    λ program source proved more h. none_begins law source input output none.1 more
memory_fronts law s input base bound output taken (Err (F.Memory acts own)) (inr tells) =
    λ program source proved more h.
    let same = same_program source tells.compiled.source in
    subst (λ p. Begins p input more output) (sym same) (part_begins (tells.meant (subst IsProved same proved)) more h)
memory_fronts law s input base bound output taken (Ok o) answers = tt
memory_fronts law s input base bound output taken (Err F.BadBase) answers = tt
memory_fronts law s input base bound output taken (Err (F.Source fault)) answers = tt
memory_fronts law s input base bound output taken (Err (F.Read acts own)) answers = tt
memory_fronts law s input base bound output taken (Err (F.Write acts own)) answers = tt
memory_fronts law s input base bound output taken (Err (F.Machine fault acts own)) answers = tt
