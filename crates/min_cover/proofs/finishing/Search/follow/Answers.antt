use Rattle.std.proofs.Common.{◌≡◌, ◌<◌, sym, ◌∙◌, subst, arith}
use Rattle.std.proofs.lemmas.Result.{IfOk-weaker}
use Rattle.min_cover.specs.inside.Pairs.{pair_count, pair_step}
use Rattle.min_cover.specs.inside.Finishing.{search_data, joined, ended, IsSearch, weight}
use Rattle.min_cover.proofs.Searched.{end_within, follow_end, follow_some, follow_none}
use Rattle.min_cover.proofs.finishing.Search.follow.Goals as goal

pub returns-then-visit-symbols-clause-search : goal.returns-then-visit-symbols-clause-search
returns-then-visit-symbols-clause-search c =
    let rows = c.args.pairs.now.graph in
    let width = c.args.pairs.now.alphabet in
    let s = search_data c.args.self.now in
    IfOk-weaker c.finish.result (λ _. search_data c.finish.new.self ≡ ended s c.args.visit.pair) (λ _. IsSearch (pair_step rows) (pair_count rows) width 0 (search_data c.finish.new.self))
    (λ _ made. (follow_end (pair_step rows) (pair_count rows) width s (search_data c.finish.new.self) c.args.visit c.requires
    (c.if-visit-symbols.true ∙ c.symbols.ensures.count)
    (λ p symbol q leads. subst (λ n. symbol < n) c.symbols.ensures.count (c.symbols.ensures.all p symbol q leads)) made).0) c.finish.ensures

pub returns-then-visit-symbols-clause-falls : goal.returns-then-visit-symbols-clause-falls
returns-then-visit-symbols-clause-falls c =
    let rows = c.args.pairs.now.graph in
    let width = c.args.pairs.now.alphabet in
    let s = search_data c.args.self.now in
    IfOk-weaker c.finish.result (λ _. search_data c.finish.new.self ≡ ended s c.args.visit.pair) (λ _. weight width (search_data c.finish.new.self) < weight width (joined s c.args.visit))
    (λ _ made. (follow_end (pair_step rows) (pair_count rows) width s (search_data c.finish.new.self) c.args.visit c.requires
    (c.if-visit-symbols.true ∙ c.symbols.ensures.count)
    (λ p symbol q leads. subst (λ n. symbol < n) c.symbols.ensures.count (c.symbols.ensures.all p symbol q leads)) made).1) c.finish.ensures

pub overflow_add-visit : goal.overflow_add-visit
overflow_add-visit c =
    let rows = c.args.pairs.now.graph in
    let within = (end_within (pair_step rows) (pair_count rows) c.args.pairs.now.alphabet (search_data c.args.self.now) c.args.visit 0 c.requires).1 in
    omega (arith, within, c.if-visit-symbols.false, c.symbols.ensures.count, c.symbols.type_inv)

pub after-requires : goal.after-requires
after-requires c =
    let rows = c.args.pairs.now.graph in
    (end_within (pair_step rows) (pair_count rows) c.args.pairs.now.alphabet (search_data c.args.self.now) c.args.visit 0 c.requires).0

pub returns-in-Some-clause-search : goal.returns-in-Some-clause-search
returns-in-Some-clause-search c =
    let rows = c.args.pairs.now.graph in
    let width = c.args.pairs.now.alphabet in
    let s = search_data c.args.self.now in
    IfOk-weaker c.reach.result _ (λ _. IsSearch (pair_step rows) (pair_count rows) width 0 (search_data c.reach.new.self))
    (λ _ made. (follow_some (pair_step rows) (pair_count rows) width s (search_data c.reach.new.self) c.args.visit c.push.new.self.items c.in-Some.to c.requires
    (λ all. c.if-visit-symbols.false (all ∙ sym c.symbols.ensures.count)) c.in-Some.ensures.inside (sym c.in-Some.ensures.step) c.in_ok-push.ensures.items made).0) c.reach.ensures

pub returns-in-Some-clause-falls : goal.returns-in-Some-clause-falls
returns-in-Some-clause-falls c =
    let rows = c.args.pairs.now.graph in
    let width = c.args.pairs.now.alphabet in
    let s = search_data c.args.self.now in
    IfOk-weaker c.reach.result _ (λ _. weight width (search_data c.reach.new.self) < weight width (joined s c.args.visit))
    (λ _ made. (follow_some (pair_step rows) (pair_count rows) width s (search_data c.reach.new.self) c.args.visit c.push.new.self.items c.in-Some.to c.requires
    (λ all. c.if-visit-symbols.false (all ∙ sym c.symbols.ensures.count)) c.in-Some.ensures.inside (sym c.in-Some.ensures.step) c.in_ok-push.ensures.items made).1) c.reach.ensures

pub returns-in-None-clause-search : goal.returns-in-None-clause-search
returns-in-None-clause-search c =
    let rows = c.args.pairs.now.graph in
    (follow_none (pair_step rows) (pair_count rows) c.args.pairs.now.alphabet (search_data c.args.self.now) c.args.visit c.push.new.self.items c.requires
    (λ all. c.if-visit-symbols.false (all ∙ sym c.symbols.ensures.count)) c.in-None.ensures.step c.in_ok-push.ensures.items).0

pub returns-in-None-clause-falls : goal.returns-in-None-clause-falls
returns-in-None-clause-falls c =
    let rows = c.args.pairs.now.graph in
    (follow_none (pair_step rows) (pair_count rows) c.args.pairs.now.alphabet (search_data c.args.self.now) c.args.visit c.push.new.self.items c.requires
    (λ all. c.if-visit-symbols.false (all ∙ sym c.symbols.ensures.count)) c.in-None.ensures.step c.in_ok-push.ensures.items).1
