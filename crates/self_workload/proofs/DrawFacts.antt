-- One more draw.
use Rattle.std.proofs.Common.{◌≡◌, ℕ, zero, suc, ◌+◌, List, [], ◌∷◌, ◌++◌, map, refl, ap, ◌∙◌, add-one, zero-add, suc-add}
use Rattle.std.proofs.lemmas.List.{map-append}
use Rattle.rand_core.specs.Steps.{first_words}
use Rattle.rand_pcg.specs.Lcg.{Lcg, next_state, state_after}
use Rattle.rand_pcg.specs.Pcg.{multiplier_64, pcg32}
use Rattle.rv32_decode.specs.declared.instr.Instr.{Instr}
use Rattle.rv32_decode.specs.Encoding.{encoded}
use Rattle.self_workload.specs.Draws.{after_words}
use Rattle.self_workload.specs.Drawn.{drawn_instr}

state_suc : (n w m i s : ℕ) → state_after w m i (suc n) s ≡ next_state w m i (state_after w m i n s)
unfolding state_after
state_suc zero w m i s = refl
state_suc (suc n) w m i s = state_suc n w m i (next_state w m i s)

pub after_more : (n : ℕ) (g : Lcg) → after_words (n + 1) g ≡ (pcg32 (after_words n g)).1
after_more n g =
    ap (λ k. after_words k g) (add-one n)
    ∙ ap (λ s. record g { state = s }) (state_suc n 64 multiplier_64 g.increment g.state)

words_suc : (n : ℕ) (g : Lcg) → first_words pcg32 (suc n) g ≡ first_words pcg32 n g ++ (pcg32 (after_words n g)).0 ∷ []
unfolding first_words state_after
words_suc zero g = refl
words_suc (suc n) g = ap (λ xs. (pcg32 g).0 ∷ xs) (words_suc n (pcg32 g).1)

pub words_more : (n : ℕ) (g : Lcg) → first_words pcg32 (n + 1) g ≡ first_words pcg32 n g ++ (pcg32 (after_words n g)).0 ∷ []
words_more n g = ap (λ k. first_words pcg32 k g) (add-one n) ∙ words_suc n g

-- of what draws stand for
pub drawn_more : {A : Type 0} (f : ℕ → A) (n : ℕ) (g : Lcg)
    → map f (first_words pcg32 (n + 1) g) ≡ map f (first_words pcg32 n g) ++ f (pcg32 (after_words n g)).0 ∷ []
drawn_more f n g =
    ap (map f) (words_more n g) ∙ map-append f (first_words pcg32 n g) ((pcg32 (after_words n g)).0 ∷ [])

state_state : (n more w m i s : ℕ) → state_after w m i more (state_after w m i n s) ≡ state_after w m i (n + more) s
unfolding state_after
state_state zero more w m i s = rw zero-add refl
state_state (suc n) more w m i s = rw suc-add (state_state n more w m i (next_state w m i s))

pub after_after : (n more : ℕ) (g : Lcg) → after_words more (after_words n g) ≡ after_words (n + more) g
after_after n more g = ap (λ s. record g { state = s }) (state_state n more 64 multiplier_64 g.increment g.state)

pub no_draws : (g : Lcg) → first_words pcg32 0 g ≡ []
unfolding first_words
no_draws g = refl

pub after_none : (g : Lcg) → after_words 0 g ≡ g
unfolding state_after
after_none g = refl

-- of the words of what draws stand for
pub code_more : (n : ℕ) (g : Lcg) → map encoded (map drawn_instr (first_words pcg32 (n + 1) g))
    ≡ map encoded (map drawn_instr (first_words pcg32 n g)) ++ encoded (drawn_instr (pcg32 (after_words n g)).0) ∷ []
code_more n g =
    ap (map encoded) (drawn_more drawn_instr n g)
    ∙ map-append encoded (map drawn_instr (first_words pcg32 n g)) (drawn_instr (pcg32 (after_words n g)).0 ∷ [])

pub no_code : (g : Lcg) → map encoded (map drawn_instr (first_words pcg32 0 g)) ≡ []
no_code g = ap (λ xs. map encoded (map drawn_instr xs)) (no_draws g)

-- the words of code in three parts
pub code_parts : (begin drawn end : List Instr)
    → map encoded (begin ++ drawn ++ end) ≡ map encoded begin ++ map encoded drawn ++ map encoded end
code_parts begin drawn end =
    map-append encoded (begin ++ drawn) end ∙ ap (λ xs. xs ++ map encoded end) (map-append encoded begin drawn)
