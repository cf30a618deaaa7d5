use Rattle.std.proofs.Common.{◌≡◌, ◌+◌, ◌-◌, ◌*◌, ◌/◌, ◌<◌, ◌≤◌, ◌++◌, length, take, drop, List, ℕ, arith, ap, sym, subst, ◌∙◌}
use Rattle.std.proofs.lemmas.List.{length-drop, take_rest}
use Rattle.code_spec.specs.Code.{CodeData}
use Rattle.code_spec.specs.PlainText.{word_count, file_words}
use Rattle.block_codec.specs.inside.Digits.{PutsDigits}
use Rattle.block_codec.proofs.DigitLaws.{puts_none, puts_then}
use Rattle.block_codec.proofs.ItemLaws.{file_words-none}
use Rattle.block_codec.proofs.NumberLaws.{group_within, groups_within, group_more, groups_and_rest, length-words_of_groups, room_for_group, room_for_rest}
use Rattle.block_codec.proofs.words.put_words.Goals as goal

pub loop-group-init : goal.loop-group-init
loop-group-init c =
    let code = c.args.code.now in
    let room = c.args.room.now in
    let some : 0 < code.p = omega (arith, c.requires.table.code.p) in
    let at_0 : code.p * 0 ≡ 0 = omega arith in
    let none = file_words-none code.p (take (code.p * 0) c.args.bytes.now) some (ap (λ (n : ℕ). take n c.args.bytes.now) at_0) in
    subst (λ (words : List ℕ). PutsDigits code c.args.state words 0 room room c.args.state) (sym none) (puts_none code c.args.state 0 room c.requires.state)

pub put_group-state-requires-clause-room : goal.put_group-state-requires-clause-room
put_group-state-requires-clause-room c =
    let code = c.args.code.now in
    let len = length c.args.bytes.now in
    let g = c.loop-group.group in
    let p_is : c.code.inside.p ≡ code.p = ap (λ (d : CodeData). d.p) c.code.view_is in
    let q_is : c.code.inside.q ≡ code.q = ap (λ (d : CodeData). d.q) c.code.view_is in
    let inside : g < len / code.p = subst (λ (n : ℕ). g < len / n) p_is c.loop-group-test.true in
    let fits = room_for_group code.q code.p len g (length c.args.room.now) (omega (arith, c.code.invariant.p, p_is)) inside c.requires.room in
    omega (arith, fits, ap (λ (n : ℕ). 8 * n * g) q_is, c.loop-group.invariant.len)

pub loop-group-preserved : goal.loop-group-preserved
loop-group-preserved c =
    let code = c.args.code.now in
    let bytes = c.args.bytes.now in
    let len = length bytes in
    let p = c.code.inside.p in
    let g = c.loop-group.group in
    let p_is : p ≡ code.p = ap (λ (d : CodeData). d.p) c.code.view_is in
    let q_is : c.code.inside.q ≡ code.q = ap (λ (d : CodeData). d.q) c.code.view_is in
    let some : 0 < code.p = omega (arith, c.code.invariant.p, p_is) in
    let within : code.p * g + code.p ≤ len = group_within code.p len g (subst (λ (n : ℕ). g < len / n) p_is c.loop-group-test.true) in
    let width : code.p * g + code.p - code.p * g ≡ code.p = omega arith in
    let group : take (p * g + p - p * g) (drop (p * g) bytes) ≡ take code.p (drop (code.p * g) bytes) =
    subst (λ (n : ℕ). take (n * g + n - n * g) (drop (n * g) bytes) ≡ take code.p (drop (code.p * g) bytes)) (sym p_is) (ap (λ (n : ℕ). take n (drop (code.p * g) bytes)) width) in
    let front = file_words code.p (take (code.p * g) bytes) in
    let whole : front ++ file_words code.p (take (p * g + p - p * g) (drop (p * g) bytes)) ≡ file_words code.p (take (code.p * (g + 1)) bytes) =
    ap (λ (bs : List ℕ). front ++ file_words code.p bs) group ∙ group_more code.p g bytes some within in
    let count : length front ≡ 8 * g = length-words_of_groups code.p g bytes some (omega (arith, within)) in
    let turned : code.q * (8 * g) ≡ 8 * code.q * g = grind arith in
    let there : 8 * c.code.inside.q * g ≡ 0 + code.q * length front = omega (arith, ap (λ (n : ℕ). 8 * n * g) q_is, turned, ap (λ (n : ℕ). code.q * n) count) in
    puts_then code c.args.state c.loop-group.state c.put_group-state.result 0 (8 * c.code.inside.q * g) front (file_words code.p (take (p * g + p - p * g) (drop (p * g) bytes)))
    (file_words code.p (take (code.p * (g + 1)) bytes)) c.args.room.now c.loop-group.room c.put_group-state.new.room whole there c.loop-group.invariant c.put_group-state.ensures

pub put_rest-requires-clause-room : goal.put_rest-requires-clause-room
put_rest-requires-clause-room c =
    let code = c.args.code.now in
    let bytes = c.args.bytes.now in
    let len = length bytes in
    let room = length c.loop-group.room in
    let p_is : c.code.inside.p ≡ code.p = ap (λ (d : CodeData). d.p) c.code.view_is in
    let q_is : c.code.inside.q ≡ code.q = ap (λ (d : CodeData). d.q) c.code.view_is in
    let fits = room_for_rest code.q code.p len room (omega (arith, c.code.invariant.p, p_is)) (omega (arith, c.requires.room, c.loop-group.invariant.len)) in
    let n : ℕ = code.p * (len / code.p) in
    let rest : length (take (len - n) (drop n bytes)) ≡ len - n = ap (λ (bs : List ℕ). length bs) (take_rest bytes n) ∙ length-drop n bytes in
    let here : 8 * code.q * (len / code.p) + code.q * word_count code.p (8 * length (take (len - n) (drop n bytes))) + 32 ≤ room =
    subst (λ (m : ℕ). 8 * code.q * (len / code.p) + code.q * word_count code.p (8 * m) + 32 ≤ room) (sym rest) fits in
    let sized = subst (λ (q : ℕ). 8 * q * (len / code.p) + code.q * word_count code.p (8 * length (take (len - n) (drop n bytes))) + 32 ≤ room) (sym q_is) here in
    subst (λ (p : ℕ). 8 * c.code.inside.q * (len / p) + code.q * word_count code.p (8 * length (take (len - p * (len / p)) (drop (p * (len / p)) bytes))) + 32 ≤ room) (sym p_is) sized

pub returns : goal.returns
returns c =
    let code = c.args.code.now in
    let bytes = c.args.bytes.now in
    let len = length bytes in
    let p = c.code.inside.p in
    let g = c.loop-group.group in
    let p_is : p ≡ code.p = ap (λ (d : CodeData). d.p) c.code.view_is in
    let q_is : c.code.inside.q ≡ code.q = ap (λ (d : CodeData). d.q) c.code.view_is in
    let some : 0 < code.p = omega (arith, c.code.invariant.p, p_is) in
    let all : g ≡ len / p = omega (arith, c.loop-group-test.false, c.loop-group.auto.group-end) in
    let n : ℕ = p * (len / p) in
    let same : code.p * g ≡ n = ap (λ (m : ℕ). code.p * m) all ∙ ap (λ (m : ℕ). m * (len / p)) (sym p_is) in
    let within : code.p * g ≤ len = omega (arith, same, groups_within p len) in
    let front = file_words code.p (take (code.p * g) bytes) in
    let rest : take (len - n) (drop n bytes) ≡ drop (code.p * g) bytes = take_rest bytes n ∙ ap (λ (m : ℕ). drop m bytes) (sym same) in
    let whole : front ++ file_words code.p (take (len - n) (drop n bytes)) ≡ file_words code.p bytes =
    ap (λ (bs : List ℕ). front ++ file_words code.p bs) rest ∙ groups_and_rest code.p g bytes some within in
    let count : length front ≡ 8 * g = length-words_of_groups code.p g bytes some within in
    let turned : code.q * (8 * g) ≡ 8 * code.q * g = grind arith in
    let place : 8 * c.code.inside.q * (len / p) ≡ 8 * code.q * g = ap (λ (m : ℕ). 8 * c.code.inside.q * m) (sym all) ∙ ap (λ (m : ℕ). 8 * m * g) q_is in
    let there : 8 * c.code.inside.q * (len / p) ≡ 0 + code.q * length front = omega (arith, place, turned, ap (λ (m : ℕ). code.q * m) count) in
    puts_then code c.args.state c.loop-group.state c.put_rest.result 0 (8 * c.code.inside.q * (len / p)) front (file_words code.p (take (len - n) (drop n bytes)))
    (file_words code.p bytes) c.args.room.now c.loop-group.room c.put_rest.new.room whole there c.loop-group.invariant c.put_rest.ensures
