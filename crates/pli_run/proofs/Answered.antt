-- What a run of a source's image tells.
use Rattle.std.proofs.Common.{◌≡◌, ◌≢◌, ℕ, ◌+◌, ◌^◌, ◌<◌, List, [], Some, Result, Ok, Err, inl, inr, refl, sym, ap, ◌∙◌}
use Rattle.std.proofs.Common.{false, subst, arith}
use Rattle.std.proofs.lemmas.Bool.{and_parts}
use Rattle.rv_meaning.specs.Machine.{IsValidBase}
use Rattle.rv_meaning.specs.Images as Images
use Rattle.rv_meaning.specs.Tables.{AreSignatures, TableSignature}
use Rattle.pli_typing.specs.Resolving.{typed_tree, resolves, Resolves}
use Rattle.pli_typing.specs.TypedTree as Y
use Rattle.pli_language.specs.Tree as T
use Rattle.pli_meaning.specs.Pictures.{Picture}
use Rattle.pli_coding.specs.Images.{picture_of}
use Rattle.pli_coding.specs.SignatureTable.{table_of}
use Rattle.image_runs.specs.Runs.{Run, run_of, shown_by}
use Rattle.pli_meaning.specs.declared.outcome.Outcome.{Outcome}
use Rattle.pli_run.specs.declared.run.RunFault.{RunFault}
use Rattle.pli_run.specs.declared.run.RunFault.TheVariants as F
use Rattle.pli_run.specs.Running.{own_output, world_with, BreaksOff, IsPicture, IsTabled, Shows, ShowsImage}
use Rattle.pli_run.specs.Running.{ShowsWithin}
use Rattle.pli_language.specs.declared.fault.SourceFault.{SourceFault}
use Rattle.pli_language.specs.declared.fault.SourceKind.TheVariants as SourceKind
use Rattle.rv_program.specs.Generated.{IsCodeOf}
use Rattle.pli_headline.specs.Headline.{parts, Headline, Keeps}
use Rattle.cut_runs.specs.Fronts.{AcceptedCutRunsMeant, ShowsFronts}
use Rattle.pli_headline.proofs.PlainTables.{plain_table_fits}
use Rattle.number_headlines.specs.Programs.{are_all_known, are_all_plain, has_main}
use Rattle.number_headlines.proofs.Tables.{all_known, number_table_fits}
use Rattle.unit_numbers.specs.Programs.{has_unit_main}
use Rattle.pli_compile.specs.Compiling.{IsImageFor, IsProgramOf, IsProved, IsRefused}
use Rattle.pli_run.specs.Answering.{Answers, AnswersMeant, AnswersWith, IsUncompiledFor, ShowsPart, TellsRun}
use Rattle.pli_run.proofs.Filing.{pictured, tabled}

-- ---- what a program means

-- the picture of a program is that of its image
own_picture : (program : Y.Program) (image : Images.Image) → IsCodeOf program image →
    IsPicture (picture_of parts program) image
own_picture program image made =
    record {
      words_are = sym (ap (λ (i : Images.Image). i.code) made.image_is);
      fit = made.holds;
      statics_are = sym (ap (λ (i : Images.Image). i.statics) made.image_is);
      entry_is = sym (ap (λ (i : Images.Image). i.entry) made.image_is);
    }

table_fits : (program : Y.Program) → IsProved program → AreSignatures (table_of program)
table_fits program (inl forms) = plain_table_fits program forms
table_fits program (inr (inl numbers)) =
    number_table_fits program
    (and_parts (are_all_known program.variables) (has_main program program.procedures) numbers).0
table_fits program (inr (inr units)) =
    number_table_fits program
    (all_known program.variables
    (and_parts (are_all_plain program.variables) (has_unit_main program program.procedures) units).0)

-- and so is its table
own_table : (program : Y.Program) (image : Images.Image) → IsCodeOf program image → IsProved program →
    IsTabled (table_of program) image
own_table program image made proved =
    record { fit = table_fits program proved; spelled = ap (λ (i : Images.Image). i.table) made.image_is }

pub resolved_is : {tree : T.Tree} {program : Y.Program} → Resolves tree program → program ≡ typed_tree tree
resolved_is (resolves kept) = refl

-- what the image of a source shows up to some instruction is the front of what its program means from there on
shows_fronts : {s : List ℕ} (program : Y.Program) → AcceptedCutRunsMeant → IsProgramOf s program →
    Headline program (picture_of parts program) (table_of program) →
    ShowsFronts program (picture_of parts program) (table_of program)
shows_fronts {s = s} program law source =
    let accepted = source.accepted in
    subst
    (λ (p : Y.Program). Headline p (picture_of parts p) (table_of p) → ShowsFronts p (picture_of parts p) (table_of p))
    (sym (resolved_is source.resolved))
    (law s source.tokens source.tree accepted.read accepted.spelled accepted.declares accepted.keeps_types
    (picture_of parts (typed_tree source.tree)) (table_of (typed_tree source.tree)))

part_means : (program : Y.Program) → Headline program (picture_of parts program) (table_of program) →
    ShowsFronts program (picture_of parts program) (table_of program) →
    (base : ℕ) (input : List ℕ) (bound acts : ℕ) (output : List ℕ) → IsValidBase base → bound < 2 ^ 64 →
    ShowsWithin (run_of (picture_of parts program) (table_of program) base input) bound acts output →
    ShowsPart program input acts output
part_means program headline fronts base input bound acts output valid fits told =
    let within = told.within in
    let small : told.done < 2 ^ 64 = omega (arith, within, fits) in
    let shown = headline base input told.done valid small in
    let same : Some shown.world ≡ Some told.shows.world = sym shown.shows ∙ told.shows.shown in
    let is : shown.world ≡ told.shows.world = cc (same) in
    let keeps = subst (λ w. Keeps program (picture_of parts program) input told.done w) is shown.keeps in
    record {
      world = told.shows.world;
      meant = keeps.meant;
      acts_are = told.shows.acts_are;
      output_is = told.shows.output_is;
      goes_on = λ more h.
          fronts base input told.done told.shows.world valid small told.shows.shown more
          (let same = told.shows.acts_are in omega (arith, h, same));
    }

-- where a write failed, the acts and the output are those of some of the instructions
broken_within : {run : ℕ → Run} {bound acts : ℕ} {output taken : List ℕ} → BreaksOff run bound acts output taken →
    ShowsWithin run bound acts output
broken_within told =
    let within = told.within in
    record { done = told.done + 1; within = omega (arith, within); shows = told.shows }

means : (program : Y.Program) → Headline program (picture_of parts program) (table_of program) →
    ShowsFronts program (picture_of parts program) (table_of program) →
    (base : ℕ) (input : List ℕ) (bound : ℕ) (output taken : List ℕ) (r : Result Outcome RunFault) →
    IsValidBase base → bound < 2 ^ 64 →
    Shows (run_of (picture_of parts program) (table_of program) base input) bound output taken r →
    AnswersMeant program input bound output r
means program headline fronts base input bound output taken (Ok o) valid fits told =
    let shown = headline base input bound valid fits in
    let same : Some shown.world ≡ Some (world_with o output) = sym shown.shows ∙ told in
    let is : shown.world ≡ world_with o output = cc (same) in
    record {
      keeps = subst (λ w. Keeps program (picture_of parts program) input bound w) is shown.keeps;
      anywhere = λ other h. shown.anywhere other h ∙ same;
    }
means program headline fronts base input bound output taken (Err (F.Memory acts own)) valid fits told =
    part_means program headline fronts base input bound acts output valid fits told
means program headline fronts base input bound output taken (Err (F.Read acts own)) valid fits told =
    part_means program headline fronts base input bound acts output valid fits told
means program headline fronts base input bound output taken (Err (F.Write acts own)) valid fits told =
    part_means program headline fronts base input bound acts output valid fits (broken_within told)
means program headline fronts base input bound output taken (Err (F.Source fault)) valid fits told = absurd told
means program headline fronts base input bound output taken (Err F.BadBase) valid fits told = absurd told
means program headline fronts base input bound output taken (Err (F.Machine fault acts own)) valid fits told =
    let shown = headline base input bound valid fits in
    absurd (cc (shown.shows, ap shown_by told.stopped))

-- ---- what is answered

-- what is told is no refusal of a source
told_answers : {s input : List ℕ} {base bound : ℕ} (run : ℕ → Run) (output taken : List ℕ)
    (r : Result Outcome RunFault) → Shows run bound output taken r → TellsRun s input base bound output taken r →
    AnswersWith s input base bound output taken r
told_answers run output taken (Ok o) told tells = inr tells
told_answers run output taken (Err (F.Memory acts own)) told tells = inr tells
told_answers run output taken (Err F.BadBase) told tells = inr tells
told_answers run output taken (Err (F.Read acts own)) told tells = inr tells
told_answers run output taken (Err (F.Write acts own)) told tells = inr tells
told_answers run output taken (Err (F.Machine fault acts own)) told tells = inr tells
told_answers run output taken (Err (F.Source fault)) told tells = absurd told

pub answered_with : {s : List ℕ} {image : Images.Image} → AcceptedCutRunsMeant → IsImageFor s image →
    Images.IsLoadable image → (base : ℕ) (input : List ℕ) (bound : ℕ) (output taken : List ℕ)
    (r : Result Outcome RunFault) → IsValidBase base → bound < 2 ^ 64 →
    ShowsImage image base input bound output taken r → AnswersWith s input base bound output taken r
answered_with {image = image} law c loadable base input bound output taken r valid fits told =
    let p = pictured image loadable in
    let gs = tabled image loadable in
    let tells = told p.0 gs.0 p.1 gs.1 in
    told_answers (run_of p.0 gs.0 base input) output taken r tells
    (record {
      image = image;
      compiled = c;
      picture = p.0;
      pictured = p.1;
      signatures = gs.0;
      tabled = gs.1;
      told = tells;
      meant =
          λ h.
          means c.program (c.keeps h) (shows_fronts c.program law c.source (c.keeps h)) base input bound output taken r
          valid fits
          (told (picture_of parts c.program) (table_of c.program) (own_picture c.program image c.coded)
          (own_table c.program image c.coded h));
    })

pub answered : {s : List ℕ} {image : Images.Image} → AcceptedCutRunsMeant → IsImageFor s image →
    Images.IsLoadable image → (base : ℕ) (input : List ℕ) (bound : ℕ) (r : Result Outcome RunFault) →
    IsValidBase base → bound < 2 ^ 64 → ShowsImage image base input bound (own_output r) (own_output r) r →
    Answers s input base bound r
answered law c loadable base input bound r valid fits told =
    answered_with law c loadable base input bound (own_output r) (own_output r) r valid fits told

pub refused : {s : List ℕ} (input : List ℕ) (base bound : ℕ) (fault : SourceFault) (r : RunFault) → IsRefused s fault →
    IsUncompiledFor fault r → Answers s input base bound (Err r)
refused input base bound fault (F.Memory acts output) broken told = inl told.1
refused {s = s} input base bound fault (F.Source same) broken told = (
  subst (λ f. IsRefused s f) (sym told.0) broken,
  subst (λ (f : SourceFault). f.kind ≢ SourceKind.Memory)
      (sym told.0) told.1,
)
refused input base bound fault F.BadBase broken told = absurd told
refused input base bound fault (F.Read acts output) broken told = absurd told
refused input base bound fault (F.Write acts output) broken told = absurd told
refused input base bound fault (F.Machine other acts output) broken told = absurd told

-- nothing was written
pub refused_with : {s : List ℕ} (input : List ℕ) (base bound : ℕ) (taken : List ℕ) (fault : SourceFault)
    (r : RunFault) → IsRefused s fault → IsUncompiledFor fault r → AnswersWith s input base bound [] taken (Err r)
refused_with input base bound taken fault (F.Memory acts output) broken told = inl (told.1.0, refl)
refused_with {s = s} input base bound taken fault (F.Source same) broken told = (
  subst (λ f. IsRefused s f) (sym told.0) broken,
  subst (λ (f : SourceFault). f.kind ≢ SourceKind.Memory)
      (sym told.0) told.1,
)
refused_with input base bound taken fault F.BadBase broken told = absurd told
refused_with input base bound taken fault (F.Read acts output) broken told = absurd told
refused_with input base bound taken fault (F.Write acts output) broken told = absurd told
refused_with input base bound taken fault (F.Machine other acts output) broken told = absurd told
