use Rattle.rs_code.proofs.Locators.{locator_finds_errors}
use Rattle.rs_code.proofs.locator_finds_errors.Goals as goal

pub returns : goal.returns
returns c = locator_finds_errors
