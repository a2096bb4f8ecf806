use Rattle.std.proofs.Common.{◌≡◌, ℕ, ◌+◌, ◌*◌, List, length, map, ap, ◌∙◌, refl}
use Rattle.std.specs.List.{range_with_len}
use Rattle.std.proofs.lemmas.Result.{err_from_is_err_and}
use Rattle.elf_loader.specs.declared.header.Header.{Header}
use Rattle.elf_loader.specs.declared.segment.Segment.{Segment}
use Rattle.elf_loader.specs.Header.{header_of}
use Rattle.elf_loader.specs.Segments.{segment_at, segments_of}
use Rattle.elf_loader.proofs.RefusalFacts.{too_short, long_enough, refused_identity, refused_kind, refused_table, refused_segments, past_segments, loadable_by_rules}
use Rattle.elf_loader.proofs.judging.judge.Goals as goal

pub returns-then-file-lt-BYTES-clause-verdict : goal.returns-then-file-lt-BYTES-clause-verdict
returns-then-file-lt-BYTES-clause-verdict c = too_short c.args.file.now c.args.base c.args.size c.if-file-lt-BYTES.true

pub returns-in_err-judge_identity-clause-verdict : goal.returns-in_err-judge_identity-clause-verdict
returns-in_err-judge_identity-clause-verdict c =
    let p = err_from_is_err_and c.from_residual.result c.from_residual.ensures.1 in
    rw (p.1, p.2)
    (refused_identity c.args.file.now c.read-header.result c.args.base c.args.size c.in_err-judge_identity.field-0.0
    (long_enough c.args.file.now c.if-file-lt-BYTES.false) c.read-header.ensures c.in_err-judge_identity.ensures)

pub returns-in_err-judge_kind-clause-verdict : goal.returns-in_err-judge_kind-clause-verdict
returns-in_err-judge_kind-clause-verdict c =
    let p = err_from_is_err_and c.from_residual-in_err-judge_kind.result c.from_residual-in_err-judge_kind.ensures.1 in
    rw (p.1, p.2)
    (refused_kind c.args.file.now c.read-header.result c.args.base c.args.size c.in_err-judge_kind.field-0.0
    (long_enough c.args.file.now c.if-file-lt-BYTES.false) c.read-header.ensures c.in_ok-judge_identity.ensures c.in_err-judge_kind.ensures)

pub returns-in_err-judge_table-clause-verdict : goal.returns-in_err-judge_table-clause-verdict
returns-in_err-judge_table-clause-verdict c =
    let p = err_from_is_err_and c.from_residual-in_err-judge_table.result c.from_residual-in_err-judge_table.ensures.1 in
    rw (p.1, p.2)
    (refused_table c.args.file.now c.read-header.result c.args.base c.args.size c.in_err-judge_table.field-0.0
    (long_enough c.args.file.now c.if-file-lt-BYTES.false) c.read-header.ensures c.in_ok-judge_identity.ensures c.in_ok-judge_kind.ensures
    c.in_err-judge_table.ensures)

-- the program headers as they were read are those of the file
read_as : (file : List ℕ) (h : Header) (s t : List Segment) → h ≡ header_of file
    → s ≡ map (λ k. segment_at file (h.e_phoff + 32 * k)) (range_with_len 0 h.e_phnum) → t ≡ s → t ≡ segments_of file
read_as file h s t is_h is_s same =
    same ∙ is_s ∙ ap (λ (g : Header). map (λ k. segment_at file (g.e_phoff + 32 * k)) (range_with_len 0 g.e_phnum)) is_h

pub returns-in_err-judge_segments-clause-verdict : goal.returns-in_err-judge_segments-clause-verdict
returns-in_err-judge_segments-clause-verdict c =
    let p = err_from_is_err_and c.from_residual-in_err-judge_segments.result c.from_residual-in_err-judge_segments.ensures.1 in
    rw (p.1, p.2)
    (refused_segments c.args.file.now c.read-header.result c.as_slice-list.result.now c.args.base c.args.size c.in_err-judge_segments.field-0.0
    (long_enough c.args.file.now c.if-file-lt-BYTES.false) c.read-header.ensures
    (read_as c.args.file.now c.read-header.result c.read_segments-segments.result.items c.as_slice-list.result.now c.read-header.ensures c.read_segments-segments.ensures c.as_slice-list.ensures.value)
    c.in_ok-judge_identity.ensures c.in_ok-judge_kind.ensures c.in_ok-judge_table.ensures c.in_err-judge_segments.ensures)

pub returns-in_err-judge_entry-clause-verdict : goal.returns-in_err-judge_entry-clause-verdict
returns-in_err-judge_entry-clause-verdict c =
    let p = err_from_is_err_and c.from_residual-in_err-judge_entry.result c.from_residual-in_err-judge_entry.ensures.1 in
    rw (p.1, p.2)
    (past_segments c.args.file.now c.read-header.result c.as_slice-list.result.now c.args.base c.args.size
    (long_enough c.args.file.now c.if-file-lt-BYTES.false) c.read-header.ensures
    (read_as c.args.file.now c.read-header.result c.read_segments-segments.result.items c.as_slice-list.result.now c.read-header.ensures c.read_segments-segments.ensures c.as_slice-list.ensures.value)
    c.in_ok-judge_identity.ensures c.in_ok-judge_kind.ensures c.in_ok-judge_table.ensures c.in_ok-judge_segments.ensures ∙ c.in_err-judge_entry.ensures)

pub returns-clause-verdict : goal.returns-clause-verdict
returns-clause-verdict c =
    past_segments c.args.file.now c.read-header.result c.as_slice-list.result.now c.args.base c.args.size
    (long_enough c.args.file.now c.if-file-lt-BYTES.false) c.read-header.ensures
    (read_as c.args.file.now c.read-header.result c.read_segments-segments.result.items c.as_slice-list.result.now c.read-header.ensures c.read_segments-segments.ensures c.as_slice-list.ensures.value)
    c.in_ok-judge_identity.ensures c.in_ok-judge_kind.ensures c.in_ok-judge_table.ensures c.in_ok-judge_segments.ensures ∙ c.in_ok-judge_entry.ensures

pub returns-clause-segments : goal.returns-clause-segments
returns-clause-segments c =
    read_as c.args.file.now c.read-header.result c.read_segments-segments.result.items c.read_segments-segments.result.items c.read-header.ensures
    c.read_segments-segments.ensures refl

pub returns-clause-loadable : goal.returns-clause-loadable
returns-clause-loadable c =
    loadable_by_rules (length c.args.file.now) c.args.base c.args.size c.as_slice-list.result.now c.read_segments-segments.result.items
    c.as_slice-list.ensures.value c.in_ok-judge_segments.ensures
