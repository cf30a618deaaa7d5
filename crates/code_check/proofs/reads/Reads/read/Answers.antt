use Rattle.std.proofs.Common.{◌≡◌, ℕ, ◌+◌, ◌*◌, ◌-◌, ◌/◌, ◌%◌, ◌^◌, ◌<◌, ◌≤◌, length, get_or, List, refl, bit_and, ap, sym, ◌∙◌, subst, arith}
use Rattle.std.proofs.lemmas.Nat.{shr_below, mul-add-lt, and_mask, one_shl, mod_below, pow_pos}
use Rattle.symbol_base.specs.Block.{symbols_of}
use Rattle.label_graphs.specs.Graph.{EdgeData}
use Rattle.code_check.specs.inside.CoverMoves.{move_on}
use Rattle.code_check.specs.inside.ReadGraph.{after}
use Rattle.code_check.specs.inside.Reads.{ReadData}
use Rattle.code_check.proofs.MoveTables.{after-split}
use Rattle.code_check.proofs.reads.Reads.read.Goals as goal

-- the front of a block that is cut in two
front_below : (value a b q symbols : ℕ) → value < 2 ^ q → a + b ≡ q → symbols ≡ b → value / 2 ^ symbols < 2 ^ a
front_below value a b q symbols below sum is =
    subst (λ n. value / 2 ^ n < 2 ^ a) (sym is) (shr_below value a b (subst (λ n. value < 2 ^ n) (sym sum) below))

-- its end
end_is : (value b symbols : ℕ) → b < 64 → symbols ≡ b → bit_and value (1 * 2 ^ symbols % 18446744073709551616 - 1) ≡ value % 2 ^ b
end_is value b symbols short is =
    let power : 1 * 2 ^ symbols % 18446744073709551616 ≡ 2 ^ b = ap (λ n. 1 * 2 ^ n % 18446744073709551616) is ∙ one_shl b 64 short in
    ap (λ m. bit_and value (m - 1)) power ∙ and_mask value b

place_inside :
    (state count symbols number size : ℕ) → state ≤ count → number < 2 ^ symbols → size ≡ (count + 1) * 2 ^ symbols
    → state * 2 ^ symbols + number < size
place_inside state count symbols number size most below is =
    let place = mul-add-lt state (2 ^ symbols) number (count + 1) (omega (arith, most)) below in omega (arith, place, is)

pub state_after-middle-requires-clause-number : goal.state_after-middle-requires-clause-number
state_after-middle-requires-clause-number c =
    front_below c.args.block.value c.self.inside.front.symbols c.self.inside.back.symbols c.self.inside.code.now.q c.symbols-symbols.result
    (subst (λ (d : ReadData). c.args.block.value < 2 ^ d.code.q) (sym c.self.view_is) c.requires.block) c.self.invariant.block c.symbols-symbols.ensures

pub state_after-middle-requires-clause-inside : goal.state_after-middle-requires-clause-inside
state_after-middle-requires-clause-inside c =
    let below =
    front_below c.args.block.value c.self.inside.front.symbols c.self.inside.back.symbols c.self.inside.code.now.q c.symbols-symbols.result
    (subst (λ (d : ReadData). c.args.block.value < 2 ^ d.code.q) (sym c.self.view_is) c.requires.block) c.self.invariant.block c.symbols-symbols.ensures in
    place_inside c.args.state (length c.self.inside.cover.now) c.self.inside.front.symbols
    (c.args.block.value / 2 ^ c.symbols-symbols.result) (length c.self.inside.front.states.items)
    (subst (λ (d : ReadData). c.args.state ≤ length d.cover) (sym c.self.view_is) c.requires.state) below
    c.self.invariant.front_is.moves.size

pub state_after-requires-clause-inside : goal.state_after-requires-clause-inside
state_after-requires-clause-inside c =
    let value : ℕ = c.args.block.value in
    let b : ℕ = c.self.inside.back.symbols in
    let short : b < 64 = omega (arith, c.self.invariant.back_is.short) in
    let end : bit_and value (1 * 2 ^ c.symbols-symbols.result % 18446744073709551616 - 1) ≡ value % 2 ^ b =
    end_is value b c.symbols-symbols.result short c.symbols-symbols.ensures in
    let front : ℕ = c.args.state * 2 ^ c.self.inside.front.symbols + value / 2 ^ c.symbols-symbols.result in
    let below : value / 2 ^ c.symbols-symbols.result < 2 ^ c.self.inside.front.symbols =
    front_below value c.self.inside.front.symbols b c.self.inside.code.now.q c.symbols-symbols.result
    (subst (λ (d : ReadData). value < 2 ^ d.code.q) (sym c.self.view_is) c.requires.block) c.self.invariant.block c.symbols-symbols.ensures in
    let inside : front < length c.self.inside.front.states.items =
    place_inside c.args.state (length c.self.inside.cover.now) c.self.inside.front.symbols (value / 2 ^ c.symbols-symbols.result)
    (length c.self.inside.front.states.items)
    (subst (λ (d : ReadData). c.args.state ≤ length d.cover) (sym c.self.view_is) c.requires.state) below
    c.self.invariant.front_is.moves.size in
    let most : c.state_after-middle.result ≤ length c.self.inside.cover.now =
    subst (λ n. n ≤ length c.self.inside.cover.now) (sym c.state_after-middle.ensures) (c.self.invariant.front_is.inside front 0 inside) in
    place_inside c.state_after-middle.result (length c.self.inside.cover.now) b
    (bit_and value (1 * 2 ^ c.symbols-symbols.result % 18446744073709551616 - 1)) (length c.self.inside.back.states.items) most
    (subst (λ n. n < 2 ^ b) (sym end) (mod_below value (2 ^ b) (pow_pos b))) c.self.invariant.back_is.moves.size

pub returns-clause-read : goal.returns-clause-read
returns-clause-read c =
    let value : ℕ = c.args.block.value in
    let state : ℕ = c.args.state in
    let a : ℕ = c.self.inside.front.symbols in
    let b : ℕ = c.self.inside.back.symbols in
    let rows : List (List EdgeData) = c.self.inside.cover.now in
    let symbols_is : c.symbols-symbols.result ≡ b = c.symbols-symbols.ensures in
    let end : bit_and value (1 * 2 ^ c.symbols-symbols.result % 18446744073709551616 - 1) ≡ value % 2 ^ b =
    end_is value b c.symbols-symbols.result (omega (arith, c.self.invariant.back_is.short)) symbols_is in
    let known : state ≤ length rows = subst (λ (d : ReadData). state ≤ length d.cover) (sym c.self.view_is) c.requires.state in
    let below : value / 2 ^ b < 2 ^ a =
    front_below value a b c.self.inside.code.now.q b
    (subst (λ (d : ReadData). value < 2 ^ d.code.q) (sym c.self.view_is) c.requires.block) c.self.invariant.block refl in
    let front : c.state_after-middle.result ≡ get_or c.self.inside.front.states.items (state * 2 ^ a + value / 2 ^ b) 0 =
    c.state_after-middle.ensures ∙ ap (λ n. get_or c.self.inside.front.states.items (state * 2 ^ a + value / 2 ^ n) 0) symbols_is in
    let inside : state * 2 ^ a + value / 2 ^ b < length c.self.inside.front.states.items =
    place_inside state (length rows) a (value / 2 ^ b) (length c.self.inside.front.states.items) known below c.self.invariant.front_is.moves.size in
    let most : c.state_after-middle.result ≤ length rows =
    subst (λ n. n ≤ length rows) (sym front) (c.self.invariant.front_is.inside (state * 2 ^ a + value / 2 ^ b) 0 inside) in
    let middle : c.state_after-middle.result ≡ after (move_on rows) state (symbols_of 2 a (value / 2 ^ b)) =
    front ∙ c.self.invariant.front_is.moves.leads state (value / 2 ^ b) known below in
    let told : c.state_after.result ≡ after (move_on rows) state (symbols_of 2 c.self.inside.code.now.q value) =
    c.state_after.ensures
    ∙ ap (λ n. get_or c.self.inside.back.states.items (c.state_after-middle.result * 2 ^ b + n) 0) end
    ∙ c.self.invariant.back_is.moves.leads c.state_after-middle.result (value % 2 ^ b) most (mod_below value (2 ^ b) (pow_pos b))
    ∙ ap (λ s. after (move_on rows) s (symbols_of 2 b (value % 2 ^ b))) middle
    ∙ sym (after-split (move_on rows) state a b value)
    ∙ ap (λ n. after (move_on rows) state (symbols_of 2 n value)) c.self.invariant.block in
    subst (λ (d : ReadData). c.state_after.result ≡ after (move_on d.cover) state (symbols_of 2 d.code.q value)) c.self.view_is told
