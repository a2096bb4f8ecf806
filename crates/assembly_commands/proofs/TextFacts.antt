-- The text of an image, which is assembled again.
use Rattle.std.proofs.Common.{◌≡◌, ◌+◌, ◌-◌, ◌*◌, ◌%◌, ◌^◌, ◌<◌, ◌≤◌, ◌==◌, ◌&&◌, ℕ, Bool, true, false, cond, List, [], ◌∷◌, length, take, drop, Some, None, length-append, refl, sym, ◌∙◌, ap, subst, arith, leb, eqb}
use Rattle.std.specs.Prelude.{IsSome}
use Rattle.std.specs.List.{All}
use Rattle.std.proofs.lemmas.Bool.{false≢true, and_parts, leb-true, eqb-true}
use Rattle.std.proofs.lemmas.List.{length-take-le, length-drop, take-append-drop}
use Rattle.std.proofs.lemmas.List.Elements.{All-head, All-tail, All-take, All-drop}
use Rattle.conda_base.specs.Bytes.{value_at}
use Rattle.chip_config.specs.Keys.{keys}
use Rattle.chip_config.specs.Settings.{Settings, plain_settings}
use Rattle.elf_loader.specs.Header.{header_of}
use Rattle.elf_loader.specs.Image.{ImageView, image_of}
use Rattle.elf_loader.specs.Loaded.{code_of}
use Rattle.rv32_hart.specs.Code.{CodeView, IsCode, IsRangeIn, has_word, is_fetched, word_at}
use Rattle.rv32_asm.specs.Assembled.{Assembled}
use Rattle.rv32_asm.specs.Programs.{IsProgram, most_words}
use Rattle.rv32_asm.proofs.ProgramTextLemmas.{AreSmall, program_back}
use Rattle.assembly_commands.specs.Disassembling.{bytes_behind, dis_text, program_image, range_at, words_in, words_of_image}
use Rattle.assembly_commands.specs.TextLaws.{ComesBack, IsTextThatComesBack}

-- the range that has the word at an address
record HasRange (base bytes pc : ℕ) (range : ℕ × ℕ) : Type 0 where
  from : range.0 ≤ pc
  to : pc + 4 ≤ range.0 + range.1
  inside : IsRangeIn base bytes range

range_of_word : (base bytes pc : ℕ) (range : ℕ × ℕ) → IsRangeIn base bytes range → has_word pc range ≡ true → HasRange base bytes pc range
range_of_word base bytes pc range inside has =
    let both = and_parts (leb range.0 pc) (leb (pc + 4) (range.0 + range.1)) has in
    record { from = leb-true _ _ both.0; to = leb-true _ _ both.1; inside = inside }

range_found : (base bytes pc : ℕ) (ranges : List (ℕ × ℕ)) → All (IsRangeIn base bytes) ranges → is_fetched ranges pc ≡ true → HasRange base bytes pc (range_at ranges pc)
range_found base bytes pc [] inside has = absurd (false≢true has)
range_found base bytes pc (range ∷ ranges) inside has =
    go (has_word pc range) refl (range_found base bytes pc ranges (All-tail (IsRangeIn base bytes) range ranges inside))
  where
    go : (b : Bool) → has_word pc range ≡ b → (is_fetched ranges pc ≡ true → HasRange base bytes pc (range_at ranges pc)) → HasRange base bytes pc (range_at (range ∷ ranges) pc)
    go true here later = rw here (range_of_word base bytes pc range (All-head (IsRangeIn base bytes) range ranges inside) here)
    go false here later = rw here (later (rw here at has))

words_fit : (bytes : List ℕ) → 4 * length (words_in bytes) ≤ length bytes
words_fit (a ∷ b ∷ c ∷ d ∷ bytes) = let rest = words_fit bytes in omega (arith, rest)
words_fit [] = omega arith
words_fit (a ∷ []) = omega arith
words_fit (a ∷ b ∷ []) = omega arith
words_fit (a ∷ b ∷ c ∷ []) = omega arith

some_word : (bytes : List ℕ) → 4 ≤ length bytes → 0 < length (words_in bytes)
some_word (a ∷ b ∷ c ∷ d ∷ bytes) h = omega arith
some_word [] h = absurd (omega arith)
some_word (a ∷ []) h = absurd (omega arith)
some_word (a ∷ b ∷ []) h = absurd (omega arith)
some_word (a ∷ b ∷ c ∷ []) h = absurd (omega arith)

words_small : (bytes : List ℕ) → All (λ b. b < 2 ^ 8) bytes → AreSmall (words_in bytes)
words_small (a ∷ b ∷ c ∷ d ∷ bytes) h =
    let P : ℕ → Type 0 = λ x. x < 2 ^ 8 in
    let ha = All-head P a (b ∷ c ∷ d ∷ bytes) h in
    let from_b = All-tail P a (b ∷ c ∷ d ∷ bytes) h in
    let hb = All-head P b (c ∷ d ∷ bytes) from_b in
    let from_c = All-tail P b (c ∷ d ∷ bytes) from_b in
    let hc = All-head P c (d ∷ bytes) from_c in
    let from_d = All-tail P c (d ∷ bytes) from_c in
    let hd = All-head P d bytes from_d in
    (omega (arith, ha, hb, hc, hd), words_small bytes (All-tail P d bytes from_d))
words_small [] h = tt
words_small (a ∷ []) h = tt
words_small (a ∷ b ∷ []) h = tt
words_small (a ∷ b ∷ c ∷ []) h = tt

-- the words of an image from its entry on are a program
image_program : (code : CodeView) (pc : ℕ) → IsCode code → pc % 4 ≡ 0 → is_fetched code.ranges pc ≡ true → length (words_in (bytes_behind code pc)) ≤ most_words
    → IsProgram pc (words_in (bytes_behind code pc))
image_program code pc is even has few =
    let range = range_at code.ranges pc in
    let found = range_found code.base (length code.bytes) pc code.ranges is.ranges has in
    let low = found.from in
    let high = found.to in
    let from = found.inside.from in
    let to = found.inside.to in
    let room = is.room in
    let behind = drop (pc - code.base) code.bytes in
    let behind_len : length behind ≡ length code.bytes - (pc - code.base) = length-drop (pc - code.base) code.bytes in
    let size : length (bytes_behind code pc) ≡ range.0 + range.1 - pc = length-take-le (range.0 + range.1 - pc) behind (omega (arith, low, high, from, to, behind_len)) in
    let fit = words_fit (bytes_behind code pc) in
    record {
      aligned = even;
      some = some_word (bytes_behind code pc) (omega (arith, size, high));
      few = few;
      inside = omega (arith, size, fit, low, high, to, room);
    }

pub text_back : (image : ImageView) → IsCode image.code → (image.entry % 4 == 0 && is_fetched image.code.ranges image.entry) ≡ true → length (words_of_image image) ≤ most_words
    → Assembled (dis_text image) image.entry (words_of_image image)
text_back image is entry few =
    let both = and_parts (eqb (image.entry % 4) 0) (is_fetched image.code.ranges image.entry) entry in
    let range = range_at image.code.ranges image.entry in
    let P : ℕ → Type 0 = λ x. x < 2 ^ 8 in
    let small = words_small (bytes_behind image.code image.entry)
    (All-take P (range.0 + range.1 - image.entry) (drop (image.entry - image.code.base) image.code.bytes) (All-drop P (image.entry - image.code.base) image.code.bytes is.bytes)) in
    program_back image.entry (words_of_image image) small
    (image_program image.code image.entry is (eqb-true (image.entry % 4) 0 both.0) both.1 few)

-- ---- an image that was loaded into the memory of a chip on which no key is set

entry_test : (held : Bool) (word : ℕ) → IsSome (cond held (Some word) None) → held ≡ true
entry_test true word h = refl
entry_test false word h = let no : false ≡ true = h in cc

plain_memory : plain_settings.mem_bytes ≡ 16777216
unfolding keys
plain_memory = refl

take_shorter : (n : ℕ) (xs : List ℕ) → length (take n xs) ≤ length xs
take_shorter n xs = omega (arith, length-append (take n xs) (drop n xs), ap length (take-append-drop n xs))

-- its words from the entry on are few, since its memory is small
few_words : (code : CodeView) (pc : ℕ) → length code.bytes ≡ plain_settings.mem_bytes → length (words_in (bytes_behind code pc)) ≤ most_words
few_words code pc size =
    let range = range_at code.ranges pc in
    let fit = words_fit (bytes_behind code pc) in
    let short = take_shorter (range.0 + range.1 - pc) (drop (pc - code.base) code.bytes) in
    let behind : length (drop (pc - code.base) code.bytes) ≡ length code.bytes - (pc - code.base) = length-drop (pc - code.base) code.bytes in
    let small : length code.bytes ≡ 16777216 = size ∙ plain_memory in
    omega (arith, fit, short, behind, small)

pub loaded_back : (image : ImageView) → IsCode image.code → IsSome (word_at image.code image.entry) → length image.code.bytes ≡ plain_settings.mem_bytes → ComesBack image
loaded_back image is fetched size =
    text_back image is (entry_test (image.entry % 4 == 0 && is_fetched image.code.ranges image.entry) (value_at image.code.bytes (image.entry - image.code.base) 4) fetched) (few_words image.code image.entry size)

pub loaded_text : (config : Settings) (bytes text : List ℕ) (image : ImageView) → config ≡ plain_settings → image ≡ image_of bytes config.mem_base config.mem_bytes
    → IsCode image.code → IsSome (word_at (code_of bytes config.mem_base config.mem_bytes) (header_of bytes).e_entry) → length image.code.bytes ≡ config.mem_bytes → text ≡ dis_text image
    → IsTextThatComesBack (program_image bytes) text
loaded_text config bytes text image plain is code fetched size text_is =
    let same : image ≡ program_image bytes = is ∙ ap (λ (c : Settings). image_of bytes c.mem_base c.mem_bytes) plain in
    let here : IsSome (word_at image.code image.entry) = subst (λ (i : ImageView). IsSome (word_at i.code i.entry)) (sym is) fetched in
    let whole : length image.code.bytes ≡ plain_settings.mem_bytes = size ∙ ap (λ (c : Settings). c.mem_bytes) plain in
    let back : ComesBack image = loaded_back image code here whole in
    subst (λ (i : ImageView). IsTextThatComesBack i text) same (record { text_is = text_is; back = back })
