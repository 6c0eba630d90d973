use Rattle.std.proofs.Common.{◌∙◌, List, [], ℕ, Ok, Err, Result, ap, filter, refl, subst, sym}
use Rattle.uu_map.specs.declared.entry.Entry.{Entry}
use Rattle.uu_routes.specs.Map.{host_for}
use Rattle.uu_routes.specs.declared.fault.RouteFault.{RouteFault}
use Rattle.uu_routes.specs.declared.site.SiteRoute.{SiteRoute}
use Rattle.uuspool.specs.Mail.{IsWayFound, way_by}
use Rattle.uuspool.specs.Routes.{leads_to}
use Rattle.uuspool.proofs.MailLemmas.{routed_way}
use Rattle.uuspool.proofs.RoutingLemmas.{ok_of}
use Rattle.uuspool.proofs.mailing.routed_mail.Goals as goal

pub returns-in_ok-host-in-Ok-clause-sent : goal.returns-in_ok-host-in-Ok-clause-sent
returns-in_ok-host-in-Ok-clause-sent c =
    let entries = c.in_ok-entries.entries.items in
    let mail = c.args.mail in
    let way = way_by c.deref-in-Ok-2.result.now mail in
    ok_of c.mail_on.result _ _ _ c.mail_on.ensures
    (λ sent is. (
      way,
      (
        entries,
        c.in_ok-entries.ensures.entries,
        routed_way entries c.deref.result.now _ _ c.deref-2.result.now mail (Ok c.in-Ok.routes) way c.deref.ensures.value (c.deref-2.ensures.value ∙ c.in_ok-names.ensures) c.in-Ok.ensures
            (ap (λ (routes : List SiteRoute). way_by routes mail)
            (c.deref-in-Ok-2.ensures.value ∙ c.routes_to-found.ensures
            ∙ ap (λ host. filter (leads_to host) c.into_vec.result.items) (c.in_ok-host-in-Ok.ensures ∙ ap (λ (es : List Entry). host_for es mail.system) c.deref-in-Ok.ensures.value)
            ∙ ap (filter (leads_to (host_for entries mail.system))) c.into_vec.ensures)),
      ),
      is,
    ))

pub returns-in-TooCostly-clause-sent : goal.returns-in-TooCostly-clause-sent
returns-in-TooCostly-clause-sent c =
    let entries = c.in_ok-entries.entries.items in
    let nothing : List (List ℕ) = [] in (
      nothing,
      (
        entries,
        c.in_ok-entries.ensures.entries,
        routed_way entries c.deref.result.now _ _ c.deref-2.result.now c.args.mail (Err c.in-Err.fault) nothing c.deref.ensures.value (c.deref-2.ensures.value ∙ c.in_ok-names.ensures) c.in-Err.ensures
            (subst (λ (fault : RouteFault). let found : Result (List SiteRoute) RouteFault = Err fault in IsWayFound entries c.args.mail found nothing) (sym c.in-TooCostly.is) refl),
      ),
      refl,
    )
