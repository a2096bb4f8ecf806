-- The words of a program are as many as its image holds.
use Rattle.std.proofs.Common.{◌≡◌, ℕ, zero, suc, ◌+◌, List, ◌++◌, length, map, replicate, None, refl, ap, ◌∙◌, arith}
use Rattle.std.proofs.lemmas.List.{length-append, length-map}
use Rattle.rand_core.specs.Steps.{first_words}
use Rattle.rand_pcg.specs.Lcg.{Lcg}
use Rattle.rand_pcg.specs.Pcg.{pcg32}
use Rattle.rv32_decode.specs.declared.instr.Instr.{Instr}
use Rattle.rv32_decode.specs.Encoding.{encoded}
use Rattle.chip_config.specs.Keys.{keys}
use Rattle.elf_loader.specs.Refusal.{refusal}
use Rattle.elf_loader.specs.Plain.{IsPlainIn}
use Rattle.elf_loader.proofs.PlainFacts.{refusal-plain}
use Rattle.rv32_asm.specs.Programs.{IsProgram}
use Rattle.self_workload.specs.Draws.{draws_after, generator_after}
use Rattle.self_workload.specs.Drawn.{drawn_instr}
use Rattle.self_workload.specs.Workload.{code_words, hart_begin, hart_end, core_begin, core_end, words_of_seed, image_of_seed, workload_settings}

pub length_draws : (n : ℕ) (g : Lcg) → length (first_words pcg32 n g) ≡ n
unfolding first_words
length_draws zero g = refl
length_draws (suc n) g = ap suc (length_draws n (pcg32 g).1)

length_code : (begin end : List Instr) (draws : List ℕ) → length (code_words begin draws end) ≡ length begin + length draws + length end
length_code begin end draws =
    length-map (begin ++ map drawn_instr draws ++ end) encoded
    ∙ length-append (begin ++ map drawn_instr draws) end
    ∙ ap (λ n. n + length end) (length-append begin (map drawn_instr draws) ∙ ap (λ n. length begin + n) (length-map draws drawn_instr))

length_part : (begin end : List Instr) (seed before : ℕ)
    → length (code_words begin (draws_after seed before 32) end) ≡ length begin + 32 + length end
length_part begin end seed before =
    length_code begin end (draws_after seed before 32)
    ∙ ap (λ n. length begin + n + length end) (length_draws 32 (generator_after seed before))

pub length_words : (seed : ℕ) → length (words_of_seed seed) ≡ 99
unfolding words_of_seed
length_words seed =
    let harts = code_words hart_begin (draws_after seed 0 32) hart_end in
    let cores = code_words core_begin (draws_after seed 32 32) core_end in
    length-append (harts ++ replicate 18 0) cores
    ∙ rw (length-append harts (replicate 18 0), length_part hart_begin hart_end seed 0, length_part core_begin core_end seed 32) refl

fits_by : (words : List ℕ) → length words ≡ 99 → IsProgram 65536 words
fits_by words long = record { aligned = refl; some = omega (arith, long); few = omega (arith, long); inside = omega (arith, long) }

pub words_fit : (seed : ℕ) → IsProgram 65536 (words_of_seed seed)
words_fit seed = fits_by (words_of_seed seed) (length_words seed)

lies_by : (words : List ℕ) → length words ≡ 99 → IsPlainIn 65536 (length words) 0 16777216
lies_by words long = rw long record { some = omega arith; aligned = refl; from = omega arith; to = omega arith }

pub is_accepted : (seed : ℕ) → refusal (image_of_seed seed) workload_settings.mem_base workload_settings.mem_bytes ≡ None
unfolding keys
is_accepted seed =
    refusal-plain 65536 0 16777216 (words_of_seed seed) (lies_by (words_of_seed seed) (length_words seed)) (omega arith) (omega arith)
