-- Four bytes step the register as one number does, and by linearity what a word brings may be added later, stepped
-- as far on: so words can be taken in turn by registers that do not wait for each other. Assumes nothing.
use mathlib.Core.Path.{◌≡◌, refl, sym, ap, ap₂, subst, ◌∙◌}
use mathlib.Core.List.{List, [], ◌∷◌, ◌++◌, foldl, foldl-append}
use Prim.Native.Nat.{ℕ, zero, suc, ◌+◌, ◌-◌, ◌*◌, ◌/◌, ◌%◌, ◌≤◌, ◌<◌}
use native.Mathlib.Omega.{arith}
use lib.Bits.{bit_xor, xor_comm, xor_zero_r}
use lib.ListN.{length, take, drop, get_or, replicate, take-append-drop, length-drop, drop_of_length-le}
use lib.Seq.{drop-drop, length-take-le, take_all}
use Rattle.crc32c_register.specs.Register.{step_bits, step_byte}
use Rattle.crc32c_register.proofs.Xor.{xor_assoc}
use Rattle.crc32c_register.proofs.Steps.{step_bits_xor, step_bits_add, step_bits_later}
use Rattle.words.specs.Words.{unpack}
use Rattle.std.proofs.lemmas.List.{take-take}
use Rattle.std.specs.Simd.{first_chunks}
use Rattle.std.specs.Int.{from_le_bytes}
use mir.Syntax.{w32}
use Rattle.words.proofs.Slices.{Bytes, bytes_take, bytes_drop, drop_take, four}
use Rattle.crc32c.specs.Lanes.{lanes}

-- ---- bytes as one number

pub over_bytes : (bs : List ℕ) → Bytes bs → (r : ℕ)
    → foldl step_byte r bs ≡ step_bits (8 * length bs) (bit_xor r (unpack bs))
unfolding step_byte step_bits
over_bytes [] bytes r = sym (xor_zero_r r)
over_bytes (b ∷ bs) bytes r =
    let low : b < 256 = bytes 0 in
    let bits : 8 + 8 * length bs ≡ 8 * suc (length bs) = omega arith in
    let digit : (b + 256 * unpack bs) % 256 ≡ b = omega arith in
    let others : (b + 256 * unpack bs) / 256 ≡ unpack bs = omega arith in
    over_bytes bs (λ k. bytes (suc k)) (step_byte r b)
    ∙ sym (ap₂ (λ (x y : ℕ). step_bits (8 * length bs) (bit_xor (step_byte r x) y)) digit others)
    ∙ sym (step_bits_later 8 (8 * length bs) r (b + 256 * unpack bs))
    ∙ ap (λ (k : ℕ). step_bits k (bit_xor r (b + 256 * unpack bs))) bits

over_word : (s : List ℕ) → Bytes s → 4 ≤ length s → (r : ℕ)
    → foldl step_byte r (take 4 s) ≡ step_bits 32 (bit_xor r (unpack (take 4 s)))
over_word s bytes h r =
    over_bytes (take 4 s) (bytes_take 4 s bytes) r
    ∙ ap (λ (n : ℕ). step_bits (8 * n) (bit_xor r (unpack (take 4 s)))) (length-take-le 4 s h)

split_fold : (r : ℕ) (s : List ℕ) → foldl step_byte (foldl step_byte r (take 4 s)) (drop 4 s) ≡ foldl step_byte r s
split_fold r s = sym (foldl-append step_byte r (take 4 s) (drop 4 s)) ∙ ap (foldl step_byte r) (take-append-drop 4 s)

-- ---- a word as the code puts it together

chunk_at : (k i : ℕ) (s : List ℕ) → i < k → get_or (first_chunks 4 k s) i [] ≡ take 4 (drop (4 * i) s)
chunk_at zero i s h = elim h [ ]
chunk_at (suc k) zero s h = refl
chunk_at (suc k) (suc i) s h =
    let e : 4 + 4 * i ≡ 4 * suc i = omega arith in
    chunk_at k i (drop 4 s) (omega arith) ∙ ap (take 4) (drop-drop (4 * i) 4 s ∙ ap (λ (n : ℕ). drop n s) e)

next_word : (i : ℕ) (s : List ℕ) → drop (4 * (i + 1)) s ≡ drop 4 (drop (4 * i) s)
next_word i s =
    let e : 4 * (i + 1) ≡ 4 * i + 4 = omega arith in ap (λ (n : ℕ). drop n s) e ∙ sym (drop-drop 4 (4 * i) s)

unpack_four : (a b c d : ℕ) → from_le_bytes w32 (a ∷ b ∷ c ∷ d ∷ []) ≡ unpack (a ∷ b ∷ c ∷ d ∷ [])
unpack_four a b c d = omega arith

-- the word in chunk i of k
pub word_of_chunk : (k i w : ℕ) (s : List ℕ) → 4 * k ≤ length s → i < k
    → (ws : List (List ℕ)) → ws ≡ first_chunks 4 k s
    → w ≡ from_le_bytes w32 (get_or ws i []) → w ≡ unpack (take 4 (drop (4 * i) s))
word_of_chunk k i w s room h ws e ew =
    let bytes = four (4 * i) s (omega arith) in
    ew
    ∙ ap (from_le_bytes w32) (ap (λ (l : List (List ℕ)). get_or l i []) e ∙ chunk_at k i s h ∙ bytes)
    ∙ unpack_four _ _ _ _
    ∙ ap unpack (sym bytes)

-- the word of the first four bytes
pub word_in_front : (s word : List ℕ) (w : ℕ) → 4 ≤ length s → word ≡ take 4 s → w ≡ from_le_bytes w32 word
    → w ≡ unpack (take 4 s)
word_in_front s word w h e ew =
    let bytes = four 0 s h in
    ew ∙ ap (from_le_bytes w32) (e ∙ bytes) ∙ unpack_four _ _ _ _ ∙ ap unpack (sym bytes)

-- what is left of s behind a word, is what is left of s
pub left_behind : (s rest behind : List ℕ) → rest ≡ drop (length s - length rest) s → behind ≡ drop 4 rest
    → length behind + 4 ≡ length rest → behind ≡ drop (length s - length behind) s
left_behind s rest behind e b n =
    let long : length rest ≡ length s - (length s - length rest) =
    ap length e ∙ length-drop (length s - length rest) s in
    let further : length s - length rest + 4 ≡ length s - length behind = omega arith in
    b ∙ ap (drop 4) e ∙ drop-drop 4 (length s - length rest) s ∙ ap (λ (k : ℕ). drop k s) further

pub left_bytes : (s rest : List ℕ) → Bytes s → rest ≡ drop (length s - length rest) s → Bytes rest
left_bytes s rest bytes e = subst Bytes (sym e) (bytes_drop (length s - length rest) s bytes)

-- a word of the first n bytes
pub front_word : (n i : ℕ) (front s : List ℕ) → front ≡ take n s → 4 * i + 4 ≤ n
    → take 4 (drop (4 * i) front) ≡ take 4 (drop (4 * i) s)
front_word n i front s e h =
    ap (λ (l : List ℕ). take 4 (drop (4 * i) l)) e
    ∙ ap (take 4) (drop_take (4 * i) n s)
    ∙ take-take 4 (n - 4 * i) (drop (4 * i) s) (omega arith)

-- ---- what is due

-- nothing is due
pub lanes_none : (k r : ℕ) (s : List ℕ) → lanes r (replicate k 0) s ≡ foldl step_byte r s
unfolding lanes
lanes_none zero r s = refl
lanes_none (suc k) r s =
    lanes_none k (bit_xor (foldl step_byte r (take 4 s)) 0) (drop 4 s)
    ∙ ap (λ (x : ℕ). foldl step_byte x (drop 4 s)) (xor_zero_r (foldl step_byte r (take 4 s)))
    ∙ split_fold r s

-- nothing more is due
nothing_more : (due : List ℕ) (r : ℕ) (s : List ℕ) → lanes r (due ++ (0 ∷ [])) s ≡ lanes r due s
unfolding lanes
nothing_more [] r s = lanes_none 1 r s
nothing_more (d ∷ due) r s = nothing_more due (bit_xor (foldl step_byte r (take 4 s)) d) (drop 4 s)

-- a number that is added now is added 32 steps on after a word
carry_word : (r x : ℕ) (s : List ℕ) → Bytes s → 4 ≤ length s
    → foldl step_byte (bit_xor r x) (take 4 s) ≡ bit_xor (foldl step_byte r (take 4 s)) (step_bits 32 x)
carry_word r x s bytes h =
    let w = unpack (take 4 s) in
    over_word s bytes h (bit_xor r x)
    ∙ ap (step_bits 32) (xor_assoc r x w ∙ ap (bit_xor r) (xor_comm x w) ∙ sym (xor_assoc r w x))
    ∙ step_bits_xor 32 (bit_xor r w) x
    ∙ ap (λ (y : ℕ). bit_xor y (step_bits 32 x)) (sym (over_word s bytes h r))

-- and behind all that is due, as many steps on
carry : (due : List ℕ) (r x : ℕ) (s : List ℕ) → Bytes s → 4 * (length due + 1) ≤ length s
    → lanes (bit_xor r x) due s ≡ lanes r (due ++ (step_bits (32 * (length due + 1)) x ∷ [])) s
unfolding lanes
carry [] r x s bytes h =
    sym (split_fold (bit_xor r x) s)
    ∙ ap (λ (y : ℕ). foldl step_byte y (drop 4 s)) (carry_word r x s bytes (omega arith))
carry (d ∷ due) r x s bytes h =
    let after = foldl step_byte r (take 4 s) in
    let bits : 32 + 32 * (length due + 1) ≡ 32 * (suc (length due) + 1) = omega arith in
    ap (λ (y : ℕ). lanes (bit_xor y d) due (drop 4 s)) (carry_word r x s bytes (omega arith))
    ∙ ap (λ (y : ℕ). lanes y due (drop 4 s))
    (xor_assoc after (step_bits 32 x) d ∙ ap (bit_xor after) (xor_comm (step_bits 32 x) d)
    ∙ sym (xor_assoc after d (step_bits 32 x)))
    ∙ carry due (bit_xor after d) (step_bits 32 x) (drop 4 s) (bytes_drop 4 s bytes) (omega (arith, length-drop 4 s))
    ∙ ap (λ (y : ℕ). lanes (bit_xor after d) (due ++ (y ∷ [])) (drop 4 s))
    (sym (step_bits_add 32 (32 * (length due + 1)) x) ∙ ap (λ (k : ℕ). step_bits k x) bits)

-- one turn: the register takes a word, is stepped past the words of the others, and is due last
pub turn : (a b next : ℕ) (due s : List ℕ) → Bytes s → 4 * (length due + 2) ≤ length s
    → next ≡ step_bits (32 * (length due + 2)) (bit_xor a (unpack (take 4 s)))
    → lanes b (due ++ (next ∷ [])) (drop 4 s) ≡ lanes a (b ∷ due) s
unfolding lanes
turn a b next due s bytes h e =
    let word = bit_xor a (unpack (take 4 s)) in
    let bits : 32 * (length due + 2) ≡ 32 + 32 * (length due + 1) = omega arith in
    ap (λ (y : ℕ). lanes b (due ++ (y ∷ [])) (drop 4 s))
    (e ∙ ap (λ (k : ℕ). step_bits k word) bits ∙ step_bits_add 32 (32 * (length due + 1)) word)
    ∙ sym (carry due b (step_bits 32 word) (drop 4 s) (bytes_drop 4 s bytes) (omega (arith, length-drop 4 s)))
    ∙ ap (λ (y : ℕ). lanes y due (drop 4 s))
    (xor_comm b (step_bits 32 word) ∙ ap (λ (y : ℕ). bit_xor y b) (sym (over_word s bytes (omega arith) a)))

-- four registers in rotation: the first takes the bytes, what the others hold is due
pub in_rotation : (rs t : List ℕ) → length rs ≡ 4
    → lanes (get_or rs 0 0) (get_or rs 1 0 ∷ get_or rs 2 0 ∷ get_or rs 3 0 ∷ []) t ≡ lanes (get_or rs 0 0) (drop 1 rs) t
in_rotation rs t h =
    let whole = sym (four 0 rs (omega arith)) ∙ take_all 4 rs (omega arith) in
    ap (λ (l : List ℕ). lanes (get_or rs 0 0) (drop 1 l) t) whole

-- the same at word i, with three that are due
pub turn_at : (s : List ℕ) → Bytes s → (a b c d i w next : ℕ) → 4 * i + 16 ≤ length s
    → w ≡ unpack (take 4 (drop (4 * i) s))
    → next ≡ step_bits 128 (bit_xor a w)
    → lanes b (c ∷ d ∷ next ∷ []) (drop (4 * (i + 1)) s) ≡ lanes a (b ∷ c ∷ d ∷ []) (drop (4 * i) s)
turn_at s bytes a b c d i w next h ew en =
    ap (lanes b (c ∷ d ∷ next ∷ [])) (next_word i s)
    ∙ turn a b next (c ∷ d ∷ []) (drop (4 * i) s) (bytes_drop (4 * i) s bytes) (omega (arith, length-drop (4 * i) s))
    (en ∙ ap (λ (x : ℕ). step_bits 128 (bit_xor a x)) ew)

-- one turn of the last words: what is due first is added, and nothing more is due
pub due_turn : (s : List ℕ) → Bytes s → (r b c d i w next : ℕ) → 4 * i + 4 ≤ length s
    → w ≡ unpack (take 4 (drop (4 * i) s))
    → next ≡ step_bits 32 (bit_xor r w)
    → lanes (bit_xor next b) (c ∷ d ∷ 0 ∷ []) (drop (4 * (i + 1)) s) ≡ lanes r (b ∷ c ∷ d ∷ []) (drop (4 * i) s)
unfolding lanes
due_turn s bytes r b c d i w next h ew en =
    let t = drop (4 * i) s in
    let stepped : next ≡ foldl step_byte r (take 4 t) =
    en ∙ ap (λ (x : ℕ). step_bits 32 (bit_xor r x)) ew
    ∙ sym (over_word t (bytes_drop (4 * i) s bytes) (omega (arith, length-drop (4 * i) s)) r) in
    nothing_more (c ∷ d ∷ []) (bit_xor next b) (drop (4 * (i + 1)) s)
    ∙ ap₂ (λ (x : ℕ) (l : List ℕ). lanes (bit_xor x b) (c ∷ d ∷ []) l) stepped (next_word i s)

-- and their end: fewer bytes than a word are left, and what is still due is added behind them
pub due_end : (r b c d : ℕ) (t : List ℕ) → length t < 4
    → bit_xor (bit_xor (bit_xor (foldl step_byte r t) b) c) d ≡ lanes r (b ∷ c ∷ d ∷ []) t
unfolding lanes
due_end r b c d t h =
    let short : length t ≤ 4 = omega arith in
    sym (ap₂ (λ (l m : List ℕ). lanes (bit_xor (foldl step_byte r l) b) (c ∷ d ∷ []) m) (take_all 4 t short)
    (drop_of_length-le t short))
