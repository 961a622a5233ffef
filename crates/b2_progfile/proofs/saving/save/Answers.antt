use Rattle.std.proofs.Common.{◌≡◌, ◌∙◌, ◌+◌, ℕ, true, List, length, sym, ap, subst, arith}
use Rattle.std.specs.Prelude.{is_some}
use Rattle.std.specs.FinMap.{get, insert}
use Rattle.b2_text.specs.Program.{Lines}
use Rattle.b2_catalog.specs.declared.entry.Entry.{Entry}
use Rattle.b2_catalog.specs.Catalogue.{Catalogue, catalogue}
use Rattle.b2_progfile.specs.Programs.{SpellsProgram, program_bytes}
use Rattle.b2_catalog.specs.Making.{MakesFile, files_without}
use Rattle.b2_progfile.specs.Saving.{file_filled, lines_within, pieces_count, text_sectors, program_sectors, save_refusal}
use Rattle.b2_catalog.proofs.DataSectors.{get-put}
use Rattle.b2_catalog.proofs.MadeFiles.{put-twice}
use Rattle.b2_progfile.proofs.Pieces.{pieces-length, program-spelled}
use Rattle.b2_progfile.proofs.Functions.{save-code, saved-value}
use Rattle.b2_progfile.proofs.saving.save.Goals as goal

pub returns-in-Ok-clause-ok : goal.returns-in-Ok-clause-ok
returns-in-Ok-clause-ok c =
    let lines : Lines = lines_within c.args.from c.args.to c.args.t.now.lines in
    let n : c.pieces_count-count.result ≡ length (program_sectors lines) = c.pieces_count-count.ensures ∙ (ap pieces_count (c.deref.ensures.value ∙ c.in_ok-bytes.ensures.bytes) ∙ sym (pieces-length (program_bytes lines))) in
    ap (save_refusal c.args.p.now c.args.old c.args.name) (sym n) ∙ c.in-Ok.ensures.ok

pub returns-in-Ok-clause-image : goal.returns-in-Ok-clause-image
returns-in-Ok-clause-image c =
    let lines : Lines = lines_within c.args.from c.args.to c.args.t.now.lines in
    let n : c.pieces_count-count.result ≡ length (program_sectors lines) = c.pieces_count-count.ensures ∙ (ap pieces_count (c.deref.ensures.value ∙ c.in_ok-bytes.ensures.bytes) ∙ sym (pieces-length (program_bytes lines))) in
    record {
      e = c.in-Ok.e;
      between = c.make_program_file.new.p;
      made = subst (λ (n : ℕ). MakesFile c.args.p.now c.args.old c.args.name true (n + 1) c.make_program_file.new.p c.in-Ok.e) n c.in-Ok.ensures.made;
      same = c.fill_program_file.ensures.image ∙ ap (λ (b : List ℕ). file_filled c.make_program_file.new.p c.in-Ok.e.start c.in-Ok.e.end (text_sectors b)) (c.deref-in-Ok.ensures.value ∙ c.in_ok-bytes.ensures.bytes);
    }

pub returns-in-Ok-clause-file : goal.returns-in-Ok-clause-file
returns-in-Ok-clause-file c =
    let lines : Lines = lines_within c.args.from c.args.to c.args.t.now.lines in
    let there = ap (λ (files : Catalogue). get files c.args.name) c.fill_program_file.ensures.files ∙ (ap (λ (name : List ℕ). get (insert (catalogue c.make_program_file.new.p) name (record c.in-Ok.e { used = c.pieces_count-count.result })) c.args.name) c.in-Ok.ensures.named ∙ get-put (catalogue c.make_program_file.new.p) c.args.name (record c.in-Ok.e { used = c.pieces_count-count.result })) in
    rw there (record {
      live = c.in-Ok.ensures.live;
      kind = c.in-Ok.ensures.kind;
      spelled = subst (SpellsProgram lines) (sym (c.fill_program_file.ensures.there ∙ ap text_sectors (c.deref-in-Ok.ensures.value ∙ c.in_ok-bytes.ensures.bytes))) (program-spelled lines c.in_ok-bytes.ensures.ascending);
    })

pub returns-in-Ok-clause-there : goal.returns-in-Ok-clause-there
returns-in-Ok-clause-there c =
    ap is_some (ap (λ (files : Catalogue). get files c.args.name) c.fill_program_file.ensures.files ∙ (ap (λ (name : List ℕ). get (insert (catalogue c.make_program_file.new.p) name (record c.in-Ok.e { used = c.pieces_count-count.result })) c.args.name) c.in-Ok.ensures.named ∙ get-put (catalogue c.make_program_file.new.p) c.args.name (record c.in-Ok.e { used = c.pieces_count-count.result })))

pub returns-in-Ok-clause-files : goal.returns-in-Ok-clause-files
returns-in-Ok-clause-files c =
    let e : Entry = record c.in-Ok.e { used = c.pieces_count-count.result } in
    let files : catalogue c.fill_program_file.new.p ≡ insert (catalogue c.make_program_file.new.p) c.args.name e = c.fill_program_file.ensures.files ∙ ap (λ (name : List ℕ). insert (catalogue c.make_program_file.new.p) name e) c.in-Ok.ensures.named in
    let there = ap (λ (files : Catalogue). get files c.args.name) files ∙ get-put (catalogue c.make_program_file.new.p) c.args.name e in
    rw there (files ∙ (ap (λ (m : Catalogue). insert m c.args.name e) c.in-Ok.ensures.files ∙ put-twice (files_without c.args.p.now c.args.old) c.args.name c.in-Ok.e e))

pub returns-in-Ok-clause-others : goal.returns-in-Ok-clause-others
returns-in-Ok-clause-others c =
    let e : Entry = record c.in-Ok.e { used = c.pieces_count-count.result } in
    let files : catalogue c.fill_program_file.new.p ≡ insert (catalogue c.make_program_file.new.p) c.args.name e = c.fill_program_file.ensures.files ∙ ap (λ (name : List ℕ). insert (catalogue c.make_program_file.new.p) name e) c.in-Ok.ensures.named in
    let there = ap (λ (files : Catalogue). get files c.args.name) files ∙ get-put (catalogue c.make_program_file.new.p) c.args.name e in
    rw there (λ n low out. c.fill_program_file.ensures.others n (omega (arith, low, c.in-Ok.ensures.index)) out ∙ c.in-Ok.ensures.others n low out)

pub returns-clause-err : goal.returns-clause-err
returns-clause-err c =
    let lines : Lines = lines_within c.args.from c.args.to c.args.t.now.lines in
    let n : c.pieces_count-count.result ≡ length (program_sectors lines) = c.pieces_count-count.ensures ∙ (ap pieces_count (c.deref.ensures.value ∙ c.in_ok-bytes.ensures.bytes) ∙ sym (pieces-length (program_bytes lines))) in
    ap (save_refusal c.args.p.now c.args.old c.args.name) (sym n) ∙ c.in-Err.ensures.err.0

-- the same, as the function says it

pub returns-in-Ok-clause-value : goal.returns-in-Ok-clause-value
returns-in-Ok-clause-value c =
    saved-value c.args.p.now c.args.old c.args.name (lines_within c.args.from c.args.to c.args.t.now.lines) c.fill_program_file.new.p (returns-in-Ok-clause-ok c) (returns-in-Ok-clause-image c)

pub returns-clause-fails : goal.returns-clause-fails
returns-clause-fails c = save-code c.args.p.now c.args.old c.args.name (lines_within c.args.from c.args.to c.args.t.now.lines) c.in-Err.code (returns-clause-err c)
