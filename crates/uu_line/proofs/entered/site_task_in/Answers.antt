use Rattle.std.proofs.Common.{Ok, ap, drop, inl, inr, refl, subst}
use Rattle.clap.specs.Words.{found_of, rows_of}
use Rattle.uu_line.specs.declared.task.Task.{Task}
use Rattle.uu_line.specs.Internal.Entries.{HaveTexts, subcommands, texts_of}
use Rattle.uu_line.specs.Lines.{MeansNeighbours, MeansRoute, MeansTask}
use Rattle.uu_line.proofs.LineLemmas.{never_strange, task_meant}
use Rattle.uu_line.proofs.entered.site_task_in.Goals as goal

pub returns-in-map : goal.returns-in-map
returns-in-map c = inr (inr (inr (inr (inr (inr (inr (inr (inr (inr (inr (inr (inr (inr (inr (inr (inr (inr (inr (inr (inr (inr (inr (inl (c.in-map.is, refl))))))))))))))))))))))))

pub neighbours_in-requires : goal.neighbours_in-requires
neighbours_in-requires c = subst (λ name. HaveTexts (texts_of name) (rows_of (found_of c.args.given.now))) c.in-neighbours.is c.requires.entered.texts

pub returns-in-neighbours : goal.returns-in-neighbours
returns-in-neighbours c =
    let rows = rows_of (found_of c.args.given.now) in
    task_meant (MeansNeighbours rows) (MeansTask c.args.name.now rows) c.neighbours_in.result (λ meant means. inr (inr (inr (inr (inr (inr (inr (inr (inr (inr (inr (inr (inr (inr (inr (inr (inr (inr (inr (inr (inr (inr (inr (inr (inl (c.in-neighbours.is, means)))))))))))))))))))))))))) c.neighbours_in.ensures

pub returns-in-name : goal.returns-in-name
returns-in-name c = inr (inr (inr (inr (inr (inr (inr (inr (inr (inr (inr (inr (inr (inr (inr (inr (inr (inr (inr (inr (inr (inr (inr (inr (inr (inl ((c.in-name.is, refl)))))))))))))))))))))))))))

pub route_in-requires : goal.route_in-requires
route_in-requires c = subst (λ name. HaveTexts (texts_of name) (rows_of (found_of c.args.given.now))) c.in-route.is c.requires.entered.texts

pub returns-in-route : goal.returns-in-route
returns-in-route c =
    let rows = rows_of (found_of c.args.given.now) in
    task_meant (MeansRoute rows) (MeansTask c.args.name.now rows) c.route_in.result (λ meant means. inr (inr (inr (inr (inr (inr (inr (inr (inr (inr (inr (inr (inr (inr (inr (inr (inr (inr (inr (inr (inr (inr (inr (inr (inr (inr (inl ((c.in-route.is, means))))))))))))))))))))))))))))) c.route_in.ensures

pub returns-in-routes : goal.returns-in-routes
returns-in-routes c = inr (inr (inr (inr (inr (inr (inr (inr (inr (inr (inr (inr (inr (inr (inr (inr (inr (inr (inr (inr (inr (inr (inr (inr (inr (inr (inr (c.in-routes.is, ap (λ (t : Task). Ok t) c.routes_in.ensures)))))))))))))))))))))))))))

pub unreachable-requires : goal.unreachable-requires
unreachable-requires c = never_strange c.args.name.now (drop 23 subcommands) (c.in_default.not-map, (c.in_default.not-neighbours, (c.in_default.not-name, (c.in_default.not-route, (c.in_default.not-routes, tt))))) c.requires.later
